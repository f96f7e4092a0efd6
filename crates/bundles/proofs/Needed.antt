-- 02's premises on joined payloads can be met, and each is needed: small payloads, by computation. Assumes nothing.
use Prim.Native.Nat.{ℕ, ◌+◌, ◌<◌, ◌≤◌}
use lib.ListN.{length}
use mathlib.Core.List.{List, [], ◌∷◌, ◌++◌, flat_map, flatten}
use mathlib.Core.Path.{◌≡◌, refl, ap, ◌∙◌}
use native.Mathlib.Decide.{dec_le}
use native.Mathlib.Omega.{arith}
use Rattle.bracket.specs.Bracket.{good, walk, bodies_from}
use Rattle.layout.specs.Layout.{le_at, kind_of}
use Rattle.pti.specs.Frame.{parts_of, sided_of, tagged_of, frame_of}
use Rattle.rows.specs.Frames.{pti_from}
use Rattle.bundles.specs.Bundles.{bracket_of, Consumed, contents, Premises, Kept, Bundle, AllLong}
use Rattle.bundles.specs.Examples.{one, bare, short, cut, bad, beam, framed, single, double}
use Rattle.bundles.specs.Heard.{heard, heard_rows}
use Rattle.bundles.proofs.Split.{places_kept}
use Rattle.bundles.proofs.Whole.{four_bytes, kept_there}
use Rattle.bundles.proofs.Joined.{joined}
use Rattle.bundles.proofs.Grouped.{bundled}
use Rattle.bundles.proofs.Frames.{joined_heard, bundled_heard}
use Rattle.bundles.proofs.Rows.{rows_say, joined_rows}

pub one_consumed : Consumed one
unfolding flat_map bracket_of
one_consumed = record { inners = (0 ∷ 7 ∷ []) ∷ []; made = refl }

pub bare_consumed : Consumed bare
unfolding flat_map bracket_of
bare_consumed = record { inners = [] ∷ (0 ∷ []) ∷ []; made = refl }

pub short_consumed : Consumed short
unfolding flat_map bracket_of
short_consumed = record { inners = (0 ∷ []) ∷ []; made = refl }

-- payloads that meet the premises, and the bodies that come out
pub met : Premises bare one
met = record { first_long = omega arith; consumed = bare_consumed; second_long = omega arith }

pub met_bodies : contents (bare ++ one) ≡ [] ∷ (7 ∷ []) ∷ []
unfolding contents bodies_from walk good
met_bodies = joined bare one met

-- a first of 4 bytes: joined, it has a body, and alone it has none
pub first_long_needed : Consumed short × (4 < length one) × (Kept short one → ⊥)
unfolding contents bodies_from walk good
first_long_needed = (short_consumed, omega arith, λ (e : Kept short one). let z : ◌≡◌ {A = ℕ} 2 1 = ap length e in omega arith)

-- a first that is cut short, and one with a bad record at its end: the second's body is lost
pub consumed_needed : (4 < length cut) × (4 < length one) × (Kept cut one → ⊥)
unfolding contents bodies_from walk good
consumed_needed = (omega arith, omega arith, λ (e : Kept cut one). let z : ◌≡◌ {A = ℕ} 0 1 = ap length e in omega arith)

pub good_to_the_end_needed : (4 < length bad) × (4 < length one) × (Kept bad one → ⊥)
unfolding contents bodies_from walk good
good_to_the_end_needed = (omega arith, omega arith, λ (e : Kept bad one). let z : ◌≡◌ {A = ℕ} 0 1 = ap length e in omega arith)

-- a second of 4 bytes: joined, it has a body, and alone it has none
pub second_long_needed : (4 < length one) × Consumed one × (Kept one short → ⊥)
unfolding contents bodies_from walk good
second_long_needed = (omega arith, one_consumed, λ (e : Kept one short). let z : ◌≡◌ {A = ℕ} 2 1 = ap length e in omega arith)

-- and no shorter payloads show either: with a first that is consumed, one of two that are split otherwise has 4 bytes. (In the other two examples both payloads have
-- 5, the least that the premises on their lengths leave.)
module _ (p q : List ℕ) (c : Consumed p) (otherwise : Kept p q → ⊥) where
  one_of_four : (length p ≡ 4 → ⊥) → (length q ≡ 4 → ⊥) → ⊥
  one_of_four f s =
      otherwise
      (places_kept p q
      (kept_there p q c (record { first = λ (h : 0 < length q). four_bytes p f; second = λ (h : 0 < length p). four_bytes q s })))

  nine : (length p ≡ 4 → 4 < length q) → (length q ≡ 4 → 4 < length p) → 9 ≤ length p + length q
  nine f s = by (dec_le 9 (length p + length q))
    where
      by : Dec (9 ≤ length p + length q) → 9 ≤ length p + length q
      by (yes h) = h
      by (no h) = absurd (one_of_four (λ (e : length p ≡ 4). omega (arith, f e)) (λ (e : length q ≡ 4). omega (arith, s e)))

  pub first_smallest : 4 < length q → length short + length one ≤ length p + length q
  first_smallest long = nine (λ (e : length p ≡ 4). long) (λ (e : length q ≡ 4). omega arith)

  pub second_smallest : 4 < length p → length one + length short ≤ length p + length q
  second_smallest long = nine (λ (e : length p ≡ 4). omega arith) (λ (e : length q ≡ 4). long)

-- frames: two payloads with one each, and a first that is cut short, behind which the second's frame is lost
pub framed_consumed : Consumed framed
unfolding flat_map bracket_of
framed_consumed = record { inners = (0 ∷ beam) ∷ []; made = refl }

pub two_frames : length (heard (framed ++ framed)) ≡ 2
unfolding heard pti_from flat_map bodies_from walk good frame_of tagged_of sided_of parts_of
two_frames = ap length (joined_heard framed framed framed_consumed)

pub frames_need_consumed : (4 < length cut) × (4 < length framed) × (heard (cut ++ framed) ≡ heard cut ++ heard framed → ⊥)
unfolding heard pti_from flat_map bodies_from walk good frame_of tagged_of sided_of parts_of
frames_need_consumed =
    (omega arith, omega arith, λ (e : heard (cut ++ framed) ≡ heard cut ++ heard framed). let z : ◌≡◌ {A = ℕ} 0 1 = ap length e in omega arith)

-- bundles of three: of bodies, with a last that is cut short; of frames, with a payload of 4 bytes among them
pub bundle_met : contents (flatten (bare ∷ one ∷ cut ∷ [])) ≡ [] ∷ (7 ∷ []) ∷ []
unfolding Bundle AllLong flat_map contents bodies_from walk good
bundle_met = bundled (bare ∷ one ∷ cut ∷ []) (bare_consumed, (one_consumed, tt)) (omega arith, (omega arith, (omega arith, tt)))

pub bundle_frames : length (heard (flatten (framed ∷ short ∷ framed ∷ []))) ≡ 2
unfolding Bundle heard pti_from flat_map bodies_from walk good frame_of tagged_of sided_of parts_of
bundle_frames = ap length (bundled_heard (framed ∷ short ∷ framed ∷ []) (framed_consumed, (short_consumed, tt)))

-- rows of records: the one with both payloads has two, which say what those of a record with each say
pub rows_met : (kinds : List ℕ) → kind_of kinds 0xF5 ≡ 1
    → (heard_rows kinds double 0 ≡ heard_rows kinds single 0 ++ heard_rows kinds single 0) × (length (heard_rows kinds double 0) ≡ 2)
unfolding le_at
rows_met kinds pti = (
  joined_rows kinds single single double 0 0 0 (rw pti refl) (rw pti refl) (rw pti refl) framed_consumed refl,
  ap length (rows_say kinds double 0 (rw pti refl)) ∙ two_frames,
)
