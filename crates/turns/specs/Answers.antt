-- The answer in its parts: 12 said of the polygon list alone, 14 said of the keys, the number of polygons, and what is left of the answer after 11.
use Rattle.std.specs.Prelude.{ℕ, ◌-◌, ◌/◌, Bool, not, cond, ◌&&◌, List, eqb, ltb, length, get_or, Result, Ok}
use Rattle.laws.specs.Counting.{largest}
use Rattle.sheet.specs.TurnList.{number_lists, refuse_first_turn, no_polygon, pair_repeated, gap}
use Rattle.sheet.specs.declared.TurnRefusal.{TurnRefusal}
use Rattle.sheet.specs.declared.TurnRefusal.TheVariants.{NoPolygon, PairRepeated, Gap}
use Rattle.turns.specs.Keys.{key_of, stands_between}

-- 12
unfoldable pub without_polygon : List ℕ → ℕ → Bool
without_polygon polygons e = eqb (get_or polygons e 0) 0

-- 14: no key is that of the sequence number before
unfoldable pub sequence_missing : List ℕ → ℕ → ℕ → ℕ → Bool
sequence_missing keys n polygon sequence = ltb 0 sequence && not (stands_between keys n (key_of polygon (sequence - 1)) (key_of polygon sequence))

-- 14: no key is one of the polygon before
unfoldable pub polygon_missing : List ℕ → ℕ → ℕ → Bool
polygon_missing keys n polygon = ltb 1 polygon && not (stands_between keys n (key_of (polygon - 1) 0) (key_of polygon 0))

-- the polygon of the last key, 0 where there is none
unfoldable pub last_polygon : List ℕ → ℕ → ℕ
last_polygon keys n = cond (eqb n 0) 0 (get_or keys (n - 1) 0 / 4294967296)

-- 12 to 14 in their order, and the number of polygons
unfoldable pub numbers_turned : List ℕ → List ℕ → Result ℕ TurnRefusal
numbers_turned polygons sequences =
    refuse_first_turn (number_lists polygons sequences) no_polygon NoPolygon
    (refuse_first_turn (number_lists polygons sequences) pair_repeated PairRepeated
    (refuse_first_turn (number_lists polygons sequences) gap Gap
    (Ok (largest (λ e. get_or polygons e 0) (length polygons)))))
