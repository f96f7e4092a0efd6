-- The wall chart and the four lists: a row's cells are the lists' answers, and off the chart no list has a pair. Assumes nothing.
use Prim.Native.Nat.{ℕ, zero, suc, ◌%◌, ◌<◌, ◌≤◌}
use lib.Dec.{eqb, ltb}
use lib.ListN.{get_or}
use mathlib.Core.Bool.{Bool, true, false, ◌&&◌, and-false}
use mathlib.Core.List.{List, [], ◌∷◌}
use mathlib.Core.Path.{◌≡◌, refl, sym, ap, ◌∙◌}
use native.Mathlib.Omega.{arith}
use borrow.Author.Tests.{eqb-true, le-ltb}
use Rattle.choice.proofs.Choice.{left_true, right_true, either}
use Rattle.speed.specs.Speed.{key_of, among, at9600, at40_k, at100_k, at_long_range, speed_for}
use Rattle.speed.specs.Chart.{row_for}

-- the cells of a row, one by one
across : (channel region : ℕ) → channel < 4 → get_or (row_for region) channel 0 ≡ speed_for channel region
across zero region h = refl
across (suc zero) region h = refl
across (suc (suc zero)) region h = refl
across (suc (suc (suc zero))) region h = refl
across (suc (suc (suc (suc channel)))) region h = absurd (omega arith)

-- a cell of what is a region's row
pub cell : {row : List ℕ} (channel region : ℕ) → row ≡ row_for region → channel < 4 → get_or row channel 0 ≡ speed_for channel region
cell channel region e h = ap (λ (r : List ℕ). get_or r channel 0) e ∙ across channel region h

-- the pairs of the four lists are on the chart, in the regions below 18
abbrev drawn : ℕ → Bool
drawn key = ltb key 1024 && ltb (key % 256) 18

abbrev all_drawn : List ℕ → Bool
all_drawn [] = true
all_drawn (x ∷ xs) = drawn x && all_drawn xs

absent : (xs : List ℕ) → all_drawn xs ≡ true → (key : ℕ) → drawn key ≡ false → among key xs ≡ false
unfolding among
absent [] e key n = refl
absent (x ∷ xs) e key n =
    either (eqb x key)
    (λ (t : eqb x key ≡ true).
    let z : true ≡ false = sym (left_true (drawn x) (all_drawn xs) e) ∙ ap drawn (eqb-true x key t) ∙ n in
    cc)
    (λ (t : eqb x key ≡ false). simp t (absent xs (right_true (drawn x) (all_drawn xs) e) key n))

off : (channel region : ℕ) → drawn (key_of channel region) ≡ false → 0 ≡ speed_for channel region
unfolding speed_for
off channel region n =
    simp (
      absent at9600 refl (key_of channel region) n,
      absent at40_k refl (key_of channel region) n,
      absent at100_k refl (key_of channel region) n,
      absent at_long_range refl (key_of channel region) n,
    )

-- beside the chart, from channel 4 on
pub beside : (channel region : ℕ) → 4 ≤ channel → 0 ≡ speed_for channel region
beside channel region h = off channel region (simp (le-ltb (key_of channel region) 1024 (omega arith)))

-- from region 18 on nothing is drawn
pub undrawn : (channel region : ℕ) → 18 ≤ region → region < 256 → 0 ≡ speed_for channel region
undrawn channel region h k =
    off channel region
    (simp (le-ltb (key_of channel region % 256) 18 (let m : key_of channel region % 256 ≡ region = omega arith in omega arith), and-false))

-- so from region 32 on, below the chart
pub below : (channel region : ℕ) → 32 ≤ region → region < 256 → 0 ≡ speed_for channel region
below channel region h k = undrawn channel region (omega arith) k

-- the rows of which nothing is drawn
pub blank_first : (region : ℕ) → region ≡ 0 → (0 ∷ 0 ∷ 0 ∷ 0 ∷ []) ≡ row_for region
unfolding speed_for among
blank_first region e = ap row_for (sym e)

pub blank : (region : ℕ) → 18 ≤ region → region < 256 → (0 ∷ 0 ∷ 0 ∷ 0 ∷ []) ≡ row_for region
blank region h k = simp (sym (undrawn 0 region h k), sym (undrawn 1 region h k), sym (undrawn 2 region h k), sym (undrawn 3 region h k))
