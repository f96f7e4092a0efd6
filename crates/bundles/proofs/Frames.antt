-- 02's request 12, of frames: the PTI frames of a payload say what its bodies' bytes say, so those of two payloads joined are the first's and then the
-- second's. Assumes nothing.
use Prim.Native.Nat.{ℕ, ◌+◌, ◌≤◌}
use lib.ListN.{length, take, drop, take-append-drop, length-append, length-drop, length-map}
use lib.Seq.{drop-append-le, take-append-le, drop-drop}
use mathlib.Core.Bool.{Bool, true, false}
use mathlib.Core.List.{List, [], ◌∷◌, ◌++◌, append-nil, map, flat_map, flatten, Memᴰ}
use mathlib.Core.Path.{◌≡◌, refl, sym, ap, ◌∙◌}
use native.Mathlib.Omega.{arith}
use Rattle.choice.proofs.Choice.{either}
use Rattle.choice.proofs.Flat.{flat_same, flat_append, map_flat, flat_map_lem}
use Rattle.bracket.specs.Bracket.{Piece, bodies}
use Rattle.pti.specs.Frame.{frame_of}
use Rattle.pti.specs.declared.PtiFrame.{PtiFrame}
use Rattle.std.specs.Prelude.{Option, None, Some}
use Rattle.pti.proofs.Mpdus.{mpdu_inside}
use Rattle.rows.specs.Frames.{Placed, held_by, held_in, pti_from, frames_from}
use Rattle.rows.proofs.Walk.{is_pti_lem}
use Rattle.bundles.specs.Bundles.{Consumed, bytes_of, contents, Bundle, empty_record, beside}
use Rattle.bundles.specs.Heard.{Heard, heard_with, heard_in, heard_by, heard_body, heard, is_pti}
use Rattle.bundles.proofs.Split.{short_contents}
use Rattle.bundles.proofs.Whole.{empty_four, whole_contents}
use Rattle.bundles.proofs.Grouped.{regrouped}

-- a part of a part
pub part_of_part : (m n len : ℕ) (x : List ℕ) → m + n ≤ length (take len x) → take n (drop m (take len x)) ≡ take n (drop m x)
part_of_part m n len x h =
    sym
    (ap (λ (y : List ℕ). take n (drop m y)) (sym (take-append-drop len x))
    ∙ ap (take n) (drop-append-le m (take len x) (drop len x) (omega arith))
    ∙ take-append-le n (drop m (take len x)) (drop len x) (omega (arith, length-drop m (take len x))))

-- a frame says in its payload what it says in its body
module _ (p : List ℕ) where
  body_says : (b : Piece) (r : Option PtiFrame) → frame_of (bytes_of p b) ≡ r
      → map (λ (x : Placed). heard_in p x.frame) (held_by b.at b.len r) ≡ heard_by (bytes_of p b) r
  body_says b None e = refl
  body_says b (Some f) e =
      let same : take f.mpdu_len (drop (b.at + f.mpdu) p) ≡ take f.mpdu_len (drop f.mpdu (bytes_of p b)) =
      ap (take f.mpdu_len) (sym (drop-drop f.mpdu b.at p))
      ∙ sym (part_of_part f.mpdu f.mpdu_len b.len (drop b.at p) (mpdu_inside (bytes_of p b) f e))
      in
      ap (λ (x : List ℕ). heard_with f x ∷ []) same

  pub heard_bodies : heard p ≡ flat_map heard_body (contents p)
  unfolding heard contents pti_from
  heard_bodies =
      map_flat (λ (x : Placed). heard_in p x.frame) (held_in p) (bodies p)
      ∙ flat_same (λ (b : Piece). map (λ (x : Placed). heard_in p x.frame) (held_in p b)) (λ (b : Piece). heard_body (bytes_of p b)) (bodies p)
      (λ (b : Piece) (m : Memᴰ b (bodies p)). body_says b (frame_of (bytes_of p b)) refl)
      ∙ sym (flat_map_lem heard_body (bytes_of p) (bodies p))

-- Joined payloads. For frames the lengths need not be asked: what a payload gains beside another is a body without a byte, which holds no frame
no_bytes : heard_body [] ≡ []
unfolding frame_of
no_bytes = refl

short_heard : (p : List ℕ) → length p ≤ 4 → heard p ≡ []
unfolding flat_map
short_heard p short = heard_bodies p ∙ ap (flat_map heard_body) (short_contents p short)

beside_heard : (p q : List ℕ) → flat_map heard_body (map (bytes_of p) (beside p q)) ≡ heard p
unfolding flat_map contents beside
beside_heard p [] = sym (heard_bodies p)
beside_heard p (y ∷ q) =
    either (empty_record p)
    (λ (t : empty_record p ≡ true). simp (t, no_bytes) (sym (short_heard p (omega (arith, empty_four p t)))))
    (λ (t : empty_record p ≡ false). simp t (sym (heard_bodies p)))

-- "The PTI frames of the joined payload are those of the first followed by those of the second, in every field but the place of the MPDU, whose bytes are equal"
pub joined_heard : (p q : List ℕ) → Consumed p → heard (p ++ q) ≡ heard p ++ heard q
joined_heard p q c =
    heard_bodies (p ++ q)
    ∙ ap (flat_map heard_body) (whole_contents p q c)
    ∙ flat_append heard_body (map (bytes_of p) (beside p q)) (map (bytes_of q) (beside q p))
    ∙ rw (beside_heard p q, beside_heard q p) refl

-- of any number of payloads, of any lengths, however they are grouped
pub bundled_heard : (ps : List (List ℕ)) → Bundle ps → heard (flatten ps) ≡ flat_map heard ps
unfolding Bundle flatten flat_map
bundled_heard [] b = short_heard [] (omega arith)
bundled_heard (p ∷ []) b = ap heard (append-nil p) ∙ sym (append-nil (heard p))
bundled_heard (p ∷ (q ∷ ps)) b = joined_heard p (flatten (q ∷ ps)) b.0 ∙ ap (λ (l : List Heard). heard p ++ l) (bundled_heard (q ∷ ps) b.1)

pub rebundled_heard : (groups : List (List (List ℕ))) → Bundle (flatten groups) → heard (flatten (map flatten groups)) ≡ flat_map heard (flatten groups)
rebundled_heard groups b = ap heard (regrouped groups) ∙ bundled_heard (flatten groups) b

-- how many there are, as `frame_count` says
pub joined_count : (kind : ℕ) (out : Bool) (p q : List ℕ) → is_pti kind ≡ true → Consumed p
    → length (frames_from kind out (p ++ q) 0) ≡ length (frames_from kind out p 0) + length (frames_from kind out q 0)
unfolding heard
joined_count kind out p q pti c =
    count (p ++ q) ∙ ap length (joined_heard p q c) ∙ length-append (heard p) (heard q) ∙ sym (rw (count p, count q) refl)
  where
    count : (x : List ℕ) → length (frames_from kind out x 0) ≡ length (heard x)
    count x = ap length (sym (is_pti_lem kind out x 0 pti)) ∙ sym (length-map (pti_from x 0) (λ (y : Placed). heard_in x y.frame))
