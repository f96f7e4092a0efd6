-- The frames of two payloads joined, by their places: those of the second stand further on by the first's length, for the caller of `next_frame` who asks
-- for one after the other, too. Assumes nothing.
use Prim.Native.Nat.{ℕ, zero, suc, ◌+◌, ◌≤◌, ◌<◌}
use lib.ListN.{length, take, length-append}
use lib.Seq.{drop-append-add}
use mathlib.Core.Bool.{Bool, true}
use mathlib.Core.List.{List, ◌∷◌, ◌++◌, map, flat_map, Memᴰ}
use mathlib.Core.Path.{◌≡◌, refl, sym, ap, ◌∙◌}
use native.Mathlib.Nat.{add_assoc}
use native.Mathlib.Omega.{arith}
use Rattle.std.specs.Prelude.{Option, None, Some}
use Rattle.choice.proofs.Flat.{flat_same, flat_append, map_flat, flat_map_lem}
use Rattle.bracket.specs.Bracket.{Piece, bodies}
use Rattle.pti.specs.Frame.{frame_of}
use Rattle.pti.specs.declared.PtiFrame.{PtiFrame}
use Rattle.rows.specs.Frames.{Placed, held_by, held_in, pti_from, frames_from, first_of}
use Rattle.rows.specs.declared.NextFrame.{NextFrame}
use Rattle.rows.proofs.Walk.{one_more_lem, none_left, past_end, is_pti_lem}
use Rattle.bundles.specs.Bundles.{bytes_of, moved_by, Premises}
use Rattle.bundles.specs.Heard.{placed_by, met_frame, asked, is_pti}
use Rattle.bundles.proofs.Split.{same_body}
use Rattle.bundles.proofs.Joined.{joined_places}

-- a body's frame, further on
held_moved : (far at len : ℕ) (r : Option PtiFrame) → held_by (far + at) len r ≡ map (placed_by far) (held_by at len r)
held_moved far at len None = refl
held_moved far at len (Some f) = rw (add_assoc far at f.mpdu, add_assoc far at len, add_assoc far (at + len) 1) refl

pub joined_frames : (p q : List ℕ) → Premises p q → pti_from (p ++ q) 0 ≡ pti_from p 0 ++ map (placed_by (length p)) (pti_from q 0)
unfolding pti_from
joined_frames p q on =
    ap (flat_map (held_in (p ++ q))) (joined_places p q on)
    ∙ flat_append (held_in (p ++ q)) (bodies p) (map (moved_by (length p)) (bodies q))
    ∙ rw (
      flat_same (held_in (p ++ q)) (held_in p) (bodies p)
          (λ (b : Piece) (m : Memᴰ b (bodies p)). ap (λ (x : List ℕ). held_by b.at b.len (frame_of x)) (same_body p q b m)),
      flat_map_lem (held_in (p ++ q)) (moved_by (length p)) (bodies q),
      flat_same (λ (b : Piece). held_in (p ++ q) (moved_by (length p) b)) (λ (b : Piece). map (placed_by (length p)) (held_in q b)) (bodies q)
          (λ (b : Piece) (m : Memᴰ b (bodies q)).
          ap (λ (x : List ℕ). held_by (length p + b.at) b.len (frame_of (take b.len x))) (drop-append-add p q b.at)
          ∙ held_moved (length p) b.at b.len (frame_of (bytes_of q b))),
      map_flat (placed_by (length p)) (held_in q) (bodies q),
    )
    refl

-- asking for one frame after the other gives all of them
module _ (kind : ℕ) (out : Bool) (p : List ℕ) where
  abbrev frame_from : ℕ → Option NextFrame
  frame_from at = first_of (frames_from kind out p at)

  asked_by : (n at : ℕ) (x : Option NextFrame) → x ≡ frame_from at → ((next : ℕ) → at < next → asked frame_from n next ≡ frames_from kind out p next)
      → met_frame x (λ (k : ℕ). asked frame_from n k) ≡ frames_from kind out p at
  asked_by n at (Some x) e later =
      let is = one_more_lem kind out p at x e in
      ap (λ (l : List Placed). record { frame = x.frame; next = x.next } ∷ l) (later x.next is.1) ∙ sym is.0
  asked_by n at None e later = sym (none_left kind out p at e)

  pub asked_all : (n at : ℕ) → length p ≤ n + at → asked frame_from n at ≡ frames_from kind out p at
  unfolding asked
  asked_all zero at h = sym (past_end kind out p at (omega arith))
  asked_all (suc n) at h = asked_by n at (frame_from at) refl (λ (next : ℕ) (l : at < next). asked_all n next (omega arith))

-- what a caller of `next_frame` meets in two PTI payloads joined: so many questions are enough for all three
pub joined_asked : (kind : ℕ) (out : Bool) (p q : List ℕ) → is_pti kind ≡ true → Premises p q → (n : ℕ) → length (p ++ q) ≤ n
    → asked (frame_from kind out (p ++ q)) n 0 ≡ asked (frame_from kind out p) n 0 ++ map (placed_by (length p)) (asked (frame_from kind out q) n 0)
joined_asked kind out p q pti on n h =
    rw (
      all (p ++ q) (omega arith),
      all p (omega (arith, length-append p q)),
      all q (omega (arith, length-append p q)),
    )
    (joined_frames p q on)
  where
    all : (x : List ℕ) → length x ≤ n → asked (frame_from kind out x) n 0 ≡ pti_from x 0
    all x l = asked_all kind out x n 0 (omega arith) ∙ sym (is_pti_lem kind out x 0 pti)
