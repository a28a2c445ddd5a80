-- Words of the paper that laws and contracts of inner crates use: sweep order, a sound list, which lists a turn list is read from.
-- The promises of the exported calls do not rest on them.
use Rattle.std.specs.Prelude.{ℕ, ◌+◌, ◌≤◌, ◌<◌, ◌≡◌, List, ◌↔◌, Result, Ok}
use Rattle.sheet.specs.Edges.{Drawing, top_height}
use Rattle.sheet.specs.Kinds.{Way, arriving, leaving, end_of, comes, number_at}
use Rattle.sheet.specs.TurnList.{GoodLists}
use Rattle.sheet.specs.declared.TurnRefusal.{TurnRefusal}

-- 01 Points 3.3: along the list the tops never fall
abbrev pub SweepOrder : Drawing → Type 0
SweepOrder sh = (e : ℕ) → e + 1 < sh.edges → top_height sh e ≤ top_height sh (e + 1)

-- 01 Points 4.3: no two edges of one kind at one place, and at each place the arriving edges are as many as the leaving ones
pub record Sound (sh : Drawing) : Type 0 where
  pub single : (w : Way) (e f : ℕ) → e < sh.edges → f < sh.edges → end_of sh w e ≡ end_of sh w f → comes sh w e ≡ comes sh w f → e ≡ f
  pub even : (p : ℕ) → number_at sh arriving p ≡ number_at sh leaving p

-- 01: an answer accepts exactly these, each with its number of polygons. `turned` does (proofs/ExactlyAccepted.antt).
abbrev pub AcceptsExactly : List ℕ → List ℕ → ℕ → Result ℕ TurnRefusal → Type 0
AcceptsExactly polygons sequences turns r = (n : ℕ) → (r ≡ Ok n) ↔ GoodLists polygons sequences turns n
