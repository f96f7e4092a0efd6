-- The highest bytes of a record's numbers: plausible ticks have 8 or 9 there, the top two bits cleared, and a plausible length has 0. Assumes nothing.
use Prim.Native.Nat.{ℕ, ◌+◌, ◌*◌, ◌%◌, ◌^◌, ◌≤◌, ◌<◌}
use borrow.Author.Tests.{le-leb, lt-leb, eqb-false}
use lib.Dec.{leb, eqb}
use lib.ListN.{get_or}
use mathlib.Core.Bool.{Bool, true, false, ◌&&◌, ◌||◌, false≢true}
use mathlib.Core.List.{List}
use mathlib.Core.Logic.{◌⊎◌, inl, inr, ⊎_elim}
use mathlib.Core.Path.{◌≡◌, refl, sym, ap}
use native.Mathlib.Decide.{dec_le}
use native.Mathlib.Omega.{arith}
use Rattle.layout.proofs.Numbers.{below}
use Rattle.layout.specs.Layout.{le_at}
use Rattle.ticks.specs.Ticks.{cleared}
use Rattle.record.proofs.Ways.{fails}
use Rattle.record.specs.Record.{plausible, ticks_in, valid}
use Rattle.layout.specs.Fields.{ticks_at, length_at}
use Rattle.resync.specs.Block.{may_ticks, may_begin}

and-false : (a b : Bool) → b ≡ false → (a && b) ≡ false
and-false true b e = e
and-false false b e = refl

-- what two tests of which neither, or not both, hold say
neither : (a b : Bool) → (a || b) ≡ false → (a ≡ false) × (b ≡ false)
neither true b e = absurd (false≢true (sym e))
neither false b e = (refl, e)

not_both : (a b : Bool) → (a && b) ≡ false → (a ≡ false) ⊎ (b ≡ false)
not_both true b e = inr e
not_both false b e = inl refl

-- a byte that can be none of a valid record's ticks is neither 8 nor 9, the top two bits cleared
not_high : (b : ℕ) → may_ticks b ≡ false → (b % 64 ≡ 8 → ⊥) × (b % 64 ≡ 9 → ⊥)
not_high b e =
    let tests : (eqb (b % 64) 8 ≡ false) × (eqb (b % 64) 9 ≡ false) = neither (eqb (b % 64) 8) (eqb (b % 64) 9) e in
    (eqb-false (b % 64) 8 tests.0, eqb-false (b % 64) 9 tests.1)

-- neither below the lower limit nor above the upper
outside : (t : ℕ) → Dec (630822816000000000 ≤ t) → (630822816000000000 ≤ t → 662479488000000000 < t) → ticks_in plausible t ≡ false
outside t (yes h) f = simp (le-leb 630822816000000000 t h, lt-leb t 662479488000000000 (f h))
outside t (no h) f = simp (lt-leb 630822816000000000 t (omega arith))

module _ (s : List ℕ) (at : ℕ) (bytes : (k : ℕ) → get_or s k 0 < 256) (kinds : List ℕ) where
  ticks_split : ticks_at s at ≡ le_at 7 s at + 72057594037927936 * get_or s (at + 7) 0
  unfolding le_at
  ticks_split = refl

  -- the highest byte of the ticks is none of a valid record's
  high_ticks : may_ticks (get_or s (at + 7) 0) ≡ false → valid plausible kinds s at ≡ false
  high_ticks e =
      let low : le_at 7 s at < 256 ^ 7 = below 7 s at bytes in
      let t : cleared (ticks_at s at) ≡ le_at 7 s at + 72057594037927936 * (get_or s (at + 7) 0 % 64) = omega (arith, ticks_split, bytes (at + 7)) in
      fails plausible kinds s at 1
      (outside (cleared (ticks_at s at)) (dec_le 630822816000000000 (cleared (ticks_at s at)))
      (λ h. omega (arith, (not_high (get_or s (at + 7) 0) e).0, (not_high (get_or s (at + 7) 0) e).1)))

  length_split : length_at s at ≡ le_at 3 s (at + 9) + 16777216 * get_or s (at + 9 + 3) 0
  unfolding le_at
  length_split = refl

  -- the highest byte of the length is not 0
  high_length : eqb (get_or s (at + 12) 0) 0 ≡ false → valid plausible kinds s at ≡ false
  high_length e =
      let not_0 : get_or s (at + 12) 0 ≡ 0 → ⊥ = eqb-false (get_or s (at + 12) 0) 0 e in
      let byte : get_or s (at + 9 + 3) 0 ≡ get_or s (at + 12) 0 = ap (λ (k : ℕ). get_or s k 0) (omega arith) in
      let large : 1048576 < length_at s at = omega (arith, length_split) in
      fails plausible kinds s at 2 (and-false (leb 1 (length_at s at)) (leb (length_at s at) 1048576) (lt-leb (length_at s at) 1048576 large))

  -- so a record with other high bytes is not valid
  pub turned_away : may_begin (get_or s (at + 7) 0) (get_or s (at + 12) 0) ≡ false → valid plausible kinds s at ≡ false
  turned_away e = ⊎_elim high_ticks high_length (not_both _ _ e)
