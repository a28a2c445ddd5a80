-- What the instructions make of the head. From the travel to the lift there are cuts only, one for each head of the outline. Each cut leaves the blade down
-- at its place, whatever was before; so a closed outline's last cut has it down at the start, and the lift raises it there.
use mathlib.Core.Path.{◌≡◌, refl, ap, ◌∙◌}
use mathlib.Core.Bool.{true}
use mathlib.Core.List.{List, [], ◌∷◌, ◌++◌}
use Prim.Native.Nat.{◌+◌}
use native.Mathlib.Omega.{arith}
use lib.ListN.{length}
use Rattle.sheet.specs.declared.Point.{Point}
use Rattle.cutter.specs.declared.machines.Place.{Place}
use Rattle.cutter.specs.declared.blade.Head.{Head}
use Rattle.cutter.specs.declared.blade.Instruction.{Instruction}
use Rattle.cutter.specs.declared.blade.Instruction.TheVariants.{Cut, Lift}
use Rattle.cutter.specs.Blade.{travel_to, cut_to, advanced, ran, raised_at}
use Rattle.cutter.specs.Programme.{Outline, cuts, programme, resting, travelled, cutting, Orderly}
use Rattle.cutter.proofs.Drawings.{Ends, ClosedBy, AllClosed}

-- the one of them that stands between others
closed-among : (before after : List Outline) (o : Outline) → AllClosed (before ++ (o ∷ after)) → ClosedBy o.start o.heads
closed-among [] after o h = h.0
closed-among (b ∷ before) after o h = closed-among before after o h.1

-- a cut leaves the blade down, whatever was run before
pub cut_down : (done : List Instruction) (p : Place) (h : Head) → (ran h (done ++ (Cut p ∷ []))).down ≡ true
unfolding ran
cut_down [] p h = refl
cut_down (i ∷ done) p h = cut_down done p (advanced h i)

module _ (place : Point → Place) where
  cuts-orderly : (ps : List Point) (rest : List Instruction) → Orderly resting rest → Orderly cutting (cuts place ps (Lift ∷ rest))
  unfolding cuts
  cuts-orderly [] rest h = h
  cuts-orderly (p ∷ ps) rest h = cuts-orderly ps rest h

  first-orderly : (q : Point) (ps : List Point) (rest : List Instruction) → ClosedBy q ps → Orderly resting rest → Orderly travelled (cuts place ps (Lift ∷ rest))
  unfolding cuts
  first-orderly q [] rest c h = elim c [ ]
  first-orderly q (p ∷ ps) rest c h = cuts-orderly ps rest h

  pub orderly : (os : List Outline) → AllClosed os → Orderly resting (programme place os)
  unfolding programme
  orderly [] c = tt
  orderly (o ∷ os) c = first-orderly o.start o.heads (programme place os) c.0 (orderly os c.1)

  -- ---- how many
  cuts-length : (ps : List Point) (rest : List Instruction) → length (cuts place ps rest) ≡ length ps + length rest
  unfolding cuts
  cuts-length [] rest = omega arith
  cuts-length (p ∷ ps) rest = let h = cuts-length ps rest in omega (arith, h)

  pub outline-length : (o : Outline) → length (programme place (o ∷ [])) ≡ length o.heads + 2
  unfolding programme
  outline-length o = let h = cuts-length o.heads (Lift ∷ []) in omega (arith, h)

  -- ---- outline after outline
  cuts-apart : (ps : List Point) (rest more : List Instruction) → cuts place ps (rest ++ more) ≡ cuts place ps rest ++ more
  unfolding cuts
  cuts-apart [] rest more = refl
  cuts-apart (p ∷ ps) rest more = ap (λ (is : List Instruction). cut_to (place p) ∷ is) (cuts-apart ps rest more)

  programmes-apart : (before after : List Outline) → programme place (before ++ after) ≡ programme place before ++ programme place after
  unfolding programme
  programmes-apart [] after = refl
  programmes-apart (o ∷ before) after =
      rw (programmes-apart before after) (ap (λ (is : List Instruction). travel_to (place o.start) ∷ is) (cuts-apart o.heads (Lift ∷ programme place before) (programme place after)))

  pub apart : (os before after : List Outline) → os ≡ before ++ after → programme place os ≡ programme place before ++ programme place after
  apart os before after e = ap (programme place) e ∙ programmes-apart before after

  -- ---- where the head stands
  -- after cuts, wherever it stood, with the last one known
  cuts-ran : (h : Head) (p q : Point) (ps : List Point) (rest : List Instruction) → Ends q p ps → ran h (cuts place (p ∷ ps) rest) ≡ ran (advanced h (cut_to (place q))) rest
  unfolding cuts ran
  cuts-ran h p q [] rest e = ap (λ (r : Point). ran (advanced h (cut_to (place r))) rest) e
  cuts-ran h p q (r ∷ rs) rest e = cuts-ran (advanced h (cut_to (place p))) r q rs rest e

  closed-ran : (h : Head) (q : Point) (ps : List Point) → ClosedBy q ps → ran h (cuts place ps (Lift ∷ [])) ≡ raised_at (place q)
  unfolding ran
  closed-ran h q [] e = elim e [ ]
  closed-ran h q (p ∷ ps) e = cuts-ran h p q ps (Lift ∷ []) e

  -- what is run last decides, where it decides from every head
  module _ (last : List Instruction) (g : Head) (settled : (h : Head) → ran h last ≡ g) where
    cuts-before : (h : Head) (ps : List Point) → ran h (cuts place ps (Lift ∷ last)) ≡ g
    unfolding cuts ran
    cuts-before h [] = settled (advanced h Lift)
    cuts-before h (p ∷ ps) = cuts-before (advanced h (cut_to (place p))) ps

  outlines-ran : (before : List Outline) (o : Outline) → ClosedBy o.start o.heads → (h : Head) → ran h (programme place (before ++ (o ∷ []))) ≡ raised_at (place o.start)
  unfolding programme ran
  outlines-ran [] o e h = closed-ran (advanced h (travel_to (place o.start))) o.start o.heads e
  outlines-ran (b ∷ before) o e h =
      cuts-before (programme place (before ++ (o ∷ []))) (raised_at (place o.start)) (outlines-ran before o e) (advanced h (travel_to (place b.start))) b.heads

  pub stands : (os : List Outline) → AllClosed os → (before after : List Outline) (o : Outline) → os ≡ before ++ (o ∷ after) → (h : Head)
      → ran h (programme place (before ++ (o ∷ []))) ≡ raised_at (place o.start)
  stands os closed before after o e h = outlines-ran before o (closed-among before after o (rw e at closed)) h
