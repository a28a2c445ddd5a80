-- The peak is exact. The lowest free row is below the peak, or is the peak where all rows below are in use; so a run opens a row that is not lent exactly
-- when its peak would pass the rows lent. A run with n rows is therefore the run with any larger number of rows until that one's peak passes n, and
-- ends there without a free row. Said of any places and journals, and any table that a sheet has alone.
use Rattle.std.specs.Prelude.{Option, Some, None, Result, ⊤, Ok, Err}
use mathlib.Core.Path.{◌≡◌, refl, ap, sym, ◌∙◌, subst}
use mathlib.Core.Bool.{Bool, true, false, ◌&&◌, cond}
use mathlib.Core.Logic.{⊎_elim}
use Prim.Native.Nat.{ℕ, zero, suc, ◌≤◌, ◌<◌}
use native.Mathlib.Omega.{arith}
use lib.Dec.{eqb, ltb, leb}
use lib.IntN.{pos}
use borrow.Author.Tests.{lt-ltb, le-ltb}
use Rattle.laws.proofs.Deciding.{lt-or-le}
use Rattle.steps.specs.declared.Side.{Side}
use Rattle.steps.specs.Rows.{other_side, LevelEdge, closing, Places, Table, Journal, Room}
use Rattle.steps.specs.SweepUp as up
use Rattle.steps.specs.SweepUp.{State, Sweep, after_done, as_edge, both_finished, levels, most_length}
use Rattle.steps.proofs.Alone.{Alone, can-open}
use Rattle.steps.specs.declared.Halt.{Halt}
use Rattle.steps.specs.declared.Halt.TheVariants.{NoFreeRow, Overrun}

module _ {P T J : Type 0} (places : Places P) (table : Table P T) (alone : Alone table) (journal : Journal J) (records : ℕ) where
  abbrev room : ℕ → Room P T J
  room n = record { places = places; table = table; journal = journal; rows = n; share = n; records = records }

  abbrev S : Type 0
  S = State T J

  -- an edge put into a row, and a closing edge, leave the peak
  pick-peak : (t : Bool) (a b : S) (k : ℕ) → a.reach ≡ k → b.reach ≡ k → (cond t a b).reach ≡ k
  pick-peak true a b k u v = u
  pick-peak false a b k u v = v

  attach-peak : (n : ℕ) (s : S) (level : ℕ) (side : Side) (e : LevelEdge P) (r : ℕ) → (up.attach (room n) s level side e r).reach ≡ s.reach
  unfolding up.attach up.move up.write
  attach-peak n s level side e r =
      pick-peak (ltb s.records records && leb (up.longer (room n) side (up.look (room n) s r) e) most_length)
      (up.move (room n) (up.write (room n) s (up.chain_record (room n) level side (up.look (room n) s r) e r)) r side (up.top side e) (up.longer (room n) side (up.look (room n) s r) e))
      (up.ended (Err Overrun) s) s.reach refl refl

  close-peak : (n : ℕ) (s : S) (level : ℕ) (e : LevelEdge P) → (up.close (room n) s level e).reach ≡ s.reach
  unfolding up.close up.write
  close-peak n s level e = pick-peak (ltb s.records records) (up.write (room n) s (record { level = level; name = e.name; chain = closing; offset = pos e.length.falling })) (up.ended (Err Overrun) s) s.reach refl refl

  -- the peak never falls
  module _ (n : ℕ) where
    after-grows : (p : ℕ) (b c : S) → p ≤ b.reach → p ≤ c.reach → (d : Result ⊤ Halt) → p ≤ (up.after_done d b c).reach
    after-grows p b c u v (Ok _) = v
    after-grows p b c u v (Err _) = u

    pick-grows : (p : ℕ) (b c : S) → p ≤ b.reach → p ≤ c.reach → (t : Bool) → p ≤ (cond t b c).reach
    pick-grows p b c u v true = u
    pick-grows p b c u v false = v

    module _ (next : S → LevelEdge P → S) (grows : (s : S) (e : LevelEdge P) → s.reach ≤ (next s e).reach) where
      pub pass-grows : (s : S) (r : ℕ) → s.reach ≤ (up.pass_up (room n) next s r).reach
      unfolding up.pass_up up.free
      pass-grows s r = pick-grows s.reach _ s (grows (up.free (room n) s r) (as_edge r (up.look (room n) s r))) (omega arith) (both_finished (up.look (room n) s r))

      both-grows : (s : S) (q r : ℕ) → s.reach ≤ (up.pass_both (room n) next s q r).reach
      unfolding up.pass_both
      both-grows s q r =
          let s₃ = up.pass_up (room n) next s q in
          let g = pass-grows s q in
          pick-grows s.reach s₃ _ g (after-grows s.reach s₃ (up.pass_up (room n) next s₃ r) g (omega (arith, g, pass-grows s₃ r)) s₃.end) (eqb q r)

      meet-grows : (s : S) (side : Side) (r : ℕ) (f : Option ℕ) → s.reach ≤ (up.meet (room n) next s side r f).reach
      unfolding up.meet up.finish
      meet-grows s side r None = omega arith
      meet-grows s side r (Some q) = both-grows (up.finish (room n) (up.finish (room n) s q (other_side side)) r side) q r

      pub row-grows : (s : S) (level : ℕ) (side : Side) (e : LevelEdge P) (r : ℕ) → s.reach ≤ (up.on_row (room n) next s level side e r).reach
      unfolding up.on_row
      row-grows s level side e r =
          let a = up.attach (room n) s level side e r in
          let g : s.reach ≤ a.reach = omega (arith, attach-peak n s level side e r) in
          let b = up.meet (room n) next a side r (up.meeting (room n) a level side e) in
          after-grows s.reach a b g (omega (arith, g, meet-grows a side r (up.meeting (room n) a level side e))) a.end

      chain-grows : (s : S) (level : ℕ) (side : Side) (e : LevelEdge P) (f : Option ℕ) → s.reach ≤ (up.in_chain (room n) next s level side e f).reach
      unfolding up.in_chain up.open_row
      chain-grows s level side e (Some r) = row-grows s level side e r
      chain-grows s level side e None =
          let r = up.chosen (room n) s in
          let s₁ = up.open_row (room n) s r level (up.bottom side e) in
          pick-grows s.reach (up.on_row (room n) next s₁ level side e r) (up.ended (Err NoFreeRow) s) (omega (arith, row-grows s₁ level side e r)) (omega arith) (up.can_open (room n) s)

    pub treat-grows : (left level : ℕ) (s : S) (e : LevelEdge P) → s.reach ≤ (up.treat (room n) left level s e).reach
    unfolding up.treat up.steps_on
    treat-grows zero level s e = pick-grows s.reach (up.close (room n) s level e) (up.ended (Err Overrun) s) (omega (arith, close-peak n s level e)) (omega arith) (places.same e.tail e.head)
    treat-grows (suc left) level s e =
        pick-grows s.reach (up.close (room n) s level e) (up.steps_on (room n) (up.treat (room n) left (suc level)) s level (up.side_of places e) e) (omega (arith, close-peak n s level e))
        (chain-grows (up.treat (room n) left (suc level)) (λ s e. treat-grows left (suc level) s e) s level (up.side_of places e) e (up.find (room n) s level (up.side_of places e) (up.bottom (up.side_of places e) e)))
        (places.same e.tail e.head)

    pub sweep-grows : (list : ℕ → LevelEdge P) (s : S) (i : ℕ) → s.reach ≤ (up.sweep_up (room n) list s i).state.reach
    unfolding up.sweep_up
    sweep-grows list s zero = omega arith
    sweep-grows list s (suc i) = by w.state.end (sweep-grows list s i)
      where
        w : Sweep T J
        w = up.sweep_up (room n) list s i

        by : (d : Result ⊤ Halt) → s.reach ≤ w.state.reach → s.reach ≤ (after_done d w (record { state = up.treat (room n) levels 0 w.state (list i); edge = i })).state.reach
        by (Ok _) h = omega (arith, h, treat-grows levels 0 w.state (list i))
        by (Err _) h = h

  -- n rows beside n', at least as many
  module _ (n n' : ℕ) (more : n ≤ n') where
    pub record Cut (x y : S) : Type 0 where
      pub within : y.reach ≤ n → x ≡ y
      pub beyond : n < y.reach → x.end ≡ Err NoFreeRow

    cut-same : (s : S) → s.reach ≤ n → Cut s s
    cut-same s l = record { within = λ h. refl; beyond = λ h. absurd (omega arith) }

    -- one treatment after another, the second only where the first is done
    then-cut : (f g : S → S) (x y : S) → Cut x y → ((w : S) → w.reach ≤ n → Cut (f w) (g w)) → ((w : S) → w.reach ≤ (g w).reach) → Cut (up.after_done x.end x (f x)) (up.after_done y.end y (g y))
    then-cut f g x y c h grows = ⊎_elim far near (lt-or-le n y.reach)
      where
        same : (d : Result ⊤ Halt) → y.reach ≤ n → Cut (up.after_done d y (f y)) (up.after_done d y (g y))
        same (Ok _) l = h y l
        same (Err _) l = cut-same y l

        near : y.reach ≤ n → Cut (up.after_done x.end x (f x)) (up.after_done y.end y (g y))
        near l = subst (λ w. Cut (up.after_done w.end w (f w)) (up.after_done y.end y (g y))) (sym (c.within l)) (same y.end l)

        high : (d : Result ⊤ Halt) → n < y.reach → n < (up.after_done d y (g y)).reach
        high (Ok _) l = omega (arith, grows y)
        high (Err _) l = l

        far : n < y.reach → Cut (up.after_done x.end x (f x)) (up.after_done y.end y (g y))
        far l = record {
          within = λ k. absurd (omega (arith, high y.end l));
          beyond = λ k. ap (λ d. (up.after_done d x (f x)).end) (c.beyond l) ∙ c.beyond l;
        }

    pick-cut : {a b c d : S} (t : Bool) → Cut a c → Cut b d → Cut (cond t a b) (cond t c d)
    pick-cut true u v = u
    pick-cut false u v = v

    module _ (next next' : S → LevelEdge P → S) (cuts : (s : S) (e : LevelEdge P) → s.reach ≤ n → Cut (next s e) (next' s e)) (grows : (s : S) (e : LevelEdge P) → s.reach ≤ (next' s e).reach) where
      pass-cut : (s : S) (r : ℕ) → s.reach ≤ n → Cut (up.pass_up (room n) next s r) (up.pass_up (room n') next' s r)
      unfolding up.pass_up up.free
      pass-cut s r l = pick-cut (both_finished (up.look (room n) s r)) (cuts (up.free (room n) s r) (as_edge r (up.look (room n) s r)) l) (cut-same s l)

      both-cut : (s : S) (q r : ℕ) → s.reach ≤ n → Cut (up.pass_both (room n) next s q r) (up.pass_both (room n') next' s q r)
      unfolding up.pass_both
      both-cut s q r l =
          pick-cut (eqb q r) (pass-cut s q l)
          (then-cut (λ w. up.pass_up (room n) next w r) (λ w. up.pass_up (room n') next' w r) (up.pass_up (room n) next s q) (up.pass_up (room n') next' s q) (pass-cut s q l) (λ w h. pass-cut w r h) (λ w. pass-grows n' next' grows w r))

      meet-cut : (s : S) (side : Side) (r : ℕ) (f : Option ℕ) → s.reach ≤ n → Cut (up.meet (room n) next s side r f) (up.meet (room n') next' s side r f)
      unfolding up.meet up.finish
      meet-cut s side r None l = cut-same s l
      meet-cut s side r (Some q) l = both-cut (up.finish (room n) (up.finish (room n) s q (other_side side)) r side) q r l

      row_cut : (s : S) (level : ℕ) (side : Side) (e : LevelEdge P) (r : ℕ) → s.reach ≤ n → Cut (up.on_row (room n) next s level side e r) (up.on_row (room n') next' s level side e r)
      unfolding up.on_row up.attach up.move up.write up.meeting up.find
      row_cut s level side e r l =
          then-cut (λ w. up.meet (room n) next w side r (up.meeting (room n) w level side e)) (λ w. up.meet (room n') next' w side r (up.meeting (room n') w level side e)) a a (cut-same a (omega (arith, attach-peak n s level side e r))) (λ w h. meet-cut w side r (up.meeting (room n) w level side e) h) (λ w. meet-grows n' next' grows w side r _)
        where
          a : S
          a = up.attach (room n) s level side e r

      chain-cut : (s : S) (level : ℕ) (side : Side) (e : LevelEdge P) (f : Option ℕ) → s.reach ≤ n → Cut (up.in_chain (room n) next s level side e f) (up.in_chain (room n') next' s level side e f)
      unfolding up.in_chain up.open_row up.chosen up.in_use
      chain-cut s level side e (Some r) l = row_cut s level side e r l
      chain-cut s level side e None l = rw (can-open (room n) alone s refl (λ i a b. absurd (omega arith)), can-open (room n') alone s refl (λ i a b. absurd (omega (arith, l, more, a, b)))) (⊎_elim (λ h. both-open h) (λ h. rw (le-ltb r n h) (refused h (ltb r n'))) (lt-or-le r n))
        where
          r : ℕ
          r = up.chosen (room n) s

          s₁ : S
          s₁ = up.open_row (room n) s r level (up.bottom side e)

          Goal : Bool → Bool → Type 0
          Goal t u = Cut (cond t (up.on_row (room n) next s₁ level side e r) (up.ended (Err NoFreeRow) s)) (cond u (up.on_row (room n') next' s₁ level side e r) (up.ended (Err NoFreeRow) s))

          both-open : r < n → Goal (ltb r n) (ltb r n')
          both-open h = rw (lt-ltb r n h, lt-ltb r n' (omega arith)) (row_cut s₁ level side e r (omega (arith, h, l)))

          -- the row that would be opened lies past n, so the reach would too
          refused : n ≤ r → (u : Bool) → Goal false u
          refused h true = record { within = λ m. absurd (omega (arith, h, row-grows n' next' grows s₁ level side e r)); beyond = λ m. refl }
          refused h false = record { within = λ m. refl; beyond = λ m. refl }

    close-cut : (s : S) (level : ℕ) (e : LevelEdge P) → s.reach ≤ n → Cut (up.close (room n) s level e) (up.close (room n') s level e)
    unfolding up.close up.write
    close-cut s level e l = cut-same (up.close (room n) s level e) (omega (arith, close-peak n s level e))

    pub treat-cut : (left level : ℕ) (s : S) (e : LevelEdge P) → s.reach ≤ n → Cut (up.treat (room n) left level s e) (up.treat (room n') left level s e)
    unfolding up.treat up.steps_on up.find
    treat-cut zero level s e l = pick-cut (places.same e.tail e.head) (close-cut s level e l) (cut-same (up.ended (Err Overrun) s) l)
    treat-cut (suc left) level s e l = pick-cut (places.same e.tail e.head) (close-cut s level e l)
        (chain-cut (up.treat (room n) left (suc level)) (up.treat (room n') left (suc level)) (λ s e h. treat-cut left (suc level) s e h) (λ s e. treat-grows n' left (suc level) s e) s level (up.side_of places e) e (up.find (room n) s level (up.side_of places e) (up.bottom (up.side_of places e) e)) l)

    pub record SweepCut (x y : Sweep T J) : Type 0 where
      pub within : y.state.reach ≤ n → x ≡ y
      pub beyond : n < y.state.reach → x.state.end ≡ Err NoFreeRow

    next-cut : (list : ℕ → LevelEdge P) (i : ℕ) (x y : Sweep T J) → SweepCut x y
        → SweepCut (after_done x.state.end x (record { state = up.treat (room n) levels 0 x.state (list i); edge = i })) (after_done y.state.end y (record { state = up.treat (room n') levels 0 y.state (list i); edge = i }))
    next-cut list i x y c = ⊎_elim far near (lt-or-le n y.state.reach)
      where
        f : Sweep T J → S
        f w = up.treat (room n) levels 0 w.state (list i)

        g : Sweep T J → S
        g w = up.treat (room n') levels 0 w.state (list i)

        Goal : Sweep T J → Result ⊤ Halt → Type 0
        Goal w d = SweepCut (after_done d w (record { state = f w; edge = i })) (after_done d y (record { state = g y; edge = i }))

        same : (d : Result ⊤ Halt) → y.state.reach ≤ n → Goal y d
        same (Ok _) l = let t = treat-cut levels 0 y.state (list i) l in record { within = λ h. ap (λ s. record { state = s; edge = i }) (t.within h); beyond = t.beyond }
        same (Err _) l = record { within = λ h. refl; beyond = λ h. absurd (omega arith) }

        near : y.state.reach ≤ n → SweepCut (after_done x.state.end x (record { state = f x; edge = i })) (after_done y.state.end y (record { state = g y; edge = i }))
        near l = subst (λ w. SweepCut (after_done w.state.end w (record { state = f w; edge = i })) (after_done y.state.end y (record { state = g y; edge = i }))) (sym (c.within l)) (same y.state.end l)

        high : (d : Result ⊤ Halt) → n < y.state.reach → n < (after_done d y (record { state = g y; edge = i })).state.reach
        high (Ok _) l = omega (arith, treat-grows n' levels 0 y.state (list i))
        high (Err _) l = l

        far : n < y.state.reach → SweepCut (after_done x.state.end x (record { state = f x; edge = i })) (after_done y.state.end y (record { state = g y; edge = i }))
        far l = record {
          within = λ k. absurd (omega (arith, high y.state.end l));
          beyond = λ k. ap (λ d. (after_done d x (record { state = f x; edge = i })).state.end) (c.beyond l) ∙ c.beyond l;
        }

    -- the first i edges swept with n rows and with n'
    pub sweep-cut : (list : ℕ → LevelEdge P) (s : S) (i : ℕ) → s.reach ≤ n → SweepCut (up.sweep_up (room n) list s i) (up.sweep_up (room n') list s i)
    unfolding up.sweep_up
    sweep-cut list s zero l = record { within = λ h. refl; beyond = λ h. absurd (omega arith) }
    sweep-cut list s (suc i) l = next-cut list i (up.sweep_up (room n) list s i) (up.sweep_up (room n') list s i) (sweep-cut list s i l)
