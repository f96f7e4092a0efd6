-- 02's request 12: the beam counter never reaches its ceiling on a body from a bracket record. Assumes nothing.
use Prim.Native.Nat.{ℕ, zero, suc, ◌+◌, ◌-◌, ◌*◌, ◌<◌, ◌≤◌}
use lib.Dec.{eqb}
use lib.ListN.{length, get_or, take, drop, length-take, length-drop, drop_of_length-le}
use mathlib.Core.Bool.{Bool, true, false, false≢true}
use mathlib.Core.List.{List, [], ◌∷◌, flat_map, Memᴰ}
use mathlib.Core.Path.{◌≡◌, refl}
use native.Mathlib.Decide.{dec_le}
use native.Mathlib.Omega.{arith}
use borrow.Author.Tests.{ne_eqb}
use Rattle.choice.proofs.Choice.{by_choice, right_true}
use Rattle.bracket.specs.Bracket.{good, Piece, bodies}
use Rattle.beam.specs.Beam.{starts, starts_marked, repeats, beam_count}
use Rattle.bundles.specs.Bundles.{bracket_of, body_in, bytes_of, contents}
use Rattle.bundles.specs.Beams.{uncapped, body_most, beams_most}
use Rattle.bundles.specs.Examples.{markers}
use Rattle.bundles.proofs.Made.{made_contents}
use Rattle.bundles.proofs.Pieces.{each_body}

-- a match has 3 bytes or more, and passes as many
module _ (matches : List ℕ → Bool) (size : ℕ) (three : 3 ≤ size) (fits : (l : List ℕ) → matches l ≡ true → 3 ≤ length l) where
  few : (left passed : ℕ) (l : List ℕ) → passed ≤ left → passed ≤ length l → 3 * repeats matches size left l + passed ≤ length l
  unfolding repeats
  few left passed [] h k = omega arith
  few (suc left) zero (x ∷ l) h k = let r = few left 0 l (omega arith) (omega arith) in omega arith
  few (suc left) (suc passed) (x ∷ l) h k = let r = few left passed l (omega arith) (omega arith) in omega arith
  few zero passed (x ∷ l) h k =
      by_choice (λ (n : ℕ). 3 * n + passed ≤ length (x ∷ l)) (matches (x ∷ l))
      (λ (t : matches (x ∷ l) ≡ true). let f = fits (x ∷ l) t in let r = few (size - 1) 2 l (omega arith) (omega arith) in omega arith)
      (λ (t : matches (x ∷ l) ≡ false). let r = few 0 0 l (omega arith) (omega arith) in omega arith)

starts_fits : (pattern l : List ℕ) → starts pattern l ≡ true → length pattern ≤ length l
unfolding starts
starts_fits [] l e = omega arith
starts_fits (x ∷ pattern) [] e = absurd (false≢true e)
starts_fits (x ∷ pattern) (y ∷ l) e = let r = starts_fits pattern l (right_true (eqb x y) (starts pattern l) e) in omega arith

-- beams of 3 bytes or more, in fewer bytes than so many and one take
module _ (size : ℕ) (three : 3 ≤ size) (bytes : List ℕ) (most : ℕ) (some : 1 ≤ most) (fewer : length bytes < 3 * (most + 1)) where
  uncapped_by : Dec (size ≤ length bytes) → uncapped size bytes ≤ most
  unfolding uncapped repeats
  uncapped_by (yes h) =
      let r =
      few (starts_marked (take size bytes)) size three
      (λ (l : List ℕ) (t : starts_marked (take size bytes) l ≡ true).
      omega (arith, starts_fits (take size bytes) l (right_true (eqb (get_or l 0 0) 0x55) _ t), length-take size bytes))
      0 0 (drop size bytes) (omega arith) (omega arith)
      in
      omega (arith, length-drop size bytes)
  uncapped_by (no h) = rw (drop_of_length-le bytes {i = size} (omega arith)) (omega arith)

  pub few_uncapped : uncapped size bytes ≤ most
  few_uncapped = uncapped_by (dec_le size (length bytes))

  -- where so many are below the ceiling, it does nothing
  pub no_ceiling : most < 65535 → beam_count size bytes ≡ uncapped size bytes
  unfolding beam_count uncapped
  no_ceiling below = simp (ne_eqb size 0 (λ (e : size ≡ 0). omega arith)) (omega (arith, few_uncapped))

  pub few_beams : most < 65535 → beam_count size bytes ≤ most
  few_beams below = omega (arith, no_ceiling below, few_uncapped)

-- a body from a bracket record
module _ (p : List ℕ) (bytes : (k : ℕ) → get_or p k 0 < 256) where
  pub body_short : (b : Piece) → Memᴰ b (bodies p) → b.len ≤ body_most
  body_short =
      each_body p (λ (b : Piece). b.len ≤ body_most) 0 (λ (here : ℕ) (l : 0 ≤ here) (g : good p here ≡ true). omega (arith, bytes (here + 1)))

  -- any stretch of a body, its radio part among them
  module _ (b : Piece) (m : Memᴰ b (bodies p)) (from n size : ℕ) (three : 3 ≤ size) where
    abbrev stretch : List ℕ
    stretch = take n (drop from (bytes_of p b))

    stretch_short : length stretch < 3 * (beams_most + 1)
    stretch_short =
        omega (
          arith,
          body_short b m,
          length-take n (drop from (bytes_of p b)),
          length-drop from (bytes_of p b),
          length-take b.len (drop b.at p),
        )

    -- "never reaches its 16-bit ceiling on a body from a bracket record": it counts what it would count without, and that is little
    pub beams_in_body : beam_count size stretch ≤ beams_most
    beams_in_body = few_beams size three stretch beams_most (omega arith) stretch_short (omega arith)

    pub body_uncapped : beam_count size stretch ≡ uncapped size stretch
    body_uncapped = no_ceiling size three stretch beams_most (omega arith) stretch_short (omega arith)

-- so many there can be: in a payload of one bracket record with the longest body
pub beams_reached : (contents (bracket_of (0 ∷ markers)) ≡ markers ∷ []) × (beam_count 3 markers ≡ beams_most)
unfolding flat_map bracket_of body_in beam_count repeats starts
beams_reached = (made_contents ((0 ∷ markers) ∷ []) (omega arith), refl)

-- with a pattern of 1 byte there would be more
pub three_needed : beam_count 1 markers ≡ body_most
unfolding beam_count repeats starts
three_needed = refl
