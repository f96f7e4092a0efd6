-- Each frame of a payload takes 10 bytes or more of it, and its fields are small. Assumes nothing.
use Prim.Native.Nat.{ℕ, zero, suc, ◌+◌, ◌*◌, ◌≤◌, ◌<◌}
use lib.Dec.{eqb}
use lib.ListN.{length, take, drop, length-drop}
use lib.Seq.{length-take-le}
use mathlib.Core.Bool.{Bool, true, false, cond, ◌||◌}
use mathlib.Core.List.{List, [], ◌∷◌, ◌++◌}
use mathlib.Core.Path.{◌≡◌, refl, subst}
use native.Mathlib.Decide.{dec_le}
use native.Mathlib.Omega.{arith}
use Rattle.std.specs.Prelude.{Option, None, Some}
use Rattle.choice.proofs.Choice.{either}
use Rattle.bracket.specs.Bracket.{next_record}
use Rattle.bracket.specs.declared.Body.{Body}
use Rattle.bracket.proofs.Splitting.{body_further, body_inside, next_further, next_inside}
use Rattle.pti.specs.Frame.{frame_of}
use Rattle.pti.specs.declared.PtiFrame.{PtiFrame}
use Rattle.zniffer_core.specs.Run.{core_run_from}
use Rattle.zniffer_numbers.specs.Numbers.{fresh_core, goes_on}
use Rattle.zniffer_numbers.specs.declared.ParserResult.{ParserResult}
use Rattle.zniffer_numbers.specs.declared.ParserResult.TheVariants.{ValidCommand, ValidFrame, IncompleteFrame, InvalidFrame}
use Rattle.rows.specs.Frames.{Placed, held_by, pti_from, completed, zniffer_from, frames_from}
use Rattle.rows.proofs.Pti as pti
use Rattle.rows.proofs.Zniffer as zniffer
use Rattle.listing_laws.proofs.Body.{Radio, signed_small, body_frame}
use Rattle.listing_laws.proofs.Parser.{Given, frame_given}

-- a frame of a payload of n bytes
pub record Fine (n : ℕ) (f : PtiFrame) : Type 0 where
  pub radio : Radio f
  pub mpdu : f.mpdu ≤ n
  pub mpdu_len : f.mpdu_len ≤ n

-- frames from a place on in a payload of n bytes, each 10 bytes on at least
unfoldable pub Costly : ℕ → ℕ → List Placed → Type 0
Costly n from [] = Unit
Costly n from (f ∷ fs) = Fine n f.frame × ((from + 10 ≤ f.next) × ((f.next ≤ n) × Costly n f.next fs))

earlier : (n a b : ℕ) → a ≤ b → (fs : List Placed) → Costly n b fs → Costly n a fs
unfolding Costly
earlier n a b h [] k = tt
earlier n a b h (f ∷ fs) k = (k.0, (omega (arith, k.1.0), k.1.1))

-- so there are no more than a tenth of the bytes
pub tenth : (n from : ℕ) (fs : List Placed) → from ≤ n → Costly n from fs → 10 * length fs + from ≤ n
unfolding Costly
tenth n from [] h k = omega arith
tenth n from (f ∷ fs) h k = omega (arith, k.1.0, tenth n f.next fs k.1.1.0 k.1.1.1)

module _ (p : List ℕ) where
  held : (from at len next : ℕ) → from < at → at + len ≤ length p → next ≡ at + len + 1 → next ≤ length p → (r : Option PtiFrame) → frame_of (take len (drop at p)) ≡ r
      → (rest : List Placed) → Costly (length p) next rest → Costly (length p) from (held_by at len r ++ rest)
  unfolding Costly
  held from at len next f i n m None e rest h = earlier (length p) from next (omega arith) rest h
  held from at len next f i n m (Some g) e rest h =
      let size : length (take len (drop at p)) ≡ len = length-take-le len (drop at p) (simp length-drop (omega arith)) in
      let b = body_frame (take len (drop at p)) g e in
      let radio = b.1.0 in (
        record {
          radio = record { region = radio.region; channel = radio.channel; speed = radio.speed; rssi = radio.rssi; beams = radio.beams };
          mpdu = omega (arith, b.1.1);
          mpdu_len = omega (arith, b.1.1);
        },
        (omega (arith, b.0), (omega arith, subst (λ (k : ℕ). Costly (length p) k rest) n h)),
      )

  pti_at : (from : ℕ) → ((next : ℕ) → from < next → Costly (length p) next (pti_from p next)) → (r : Option Body) → next_record p from ≡ r → Costly (length p) from (pti_from p from)
  unfolding Costly
  pti_at from ih None e = rw (pti.no_body p from e) tt
  pti_at from ih (Some b) e =
      rw (pti.body p from b e)
      (held from b.at b.len b.next (body_further p from b e) (body_inside p from b e) (pti.next_is p from b e) (next_inside p from b e)
      (frame_of (take b.len (drop b.at p))) refl (pti_from p b.next) (ih b.next (next_further p from b e)))

  pti_by : (t from : ℕ) → length p ≤ from + t → Costly (length p) from (pti_from p from)
  unfolding Costly
  pti_by zero from h = rw (pti.past_end p from (omega arith)) tt
  pti_by (suc t) from h = pti_at from (λ next l. pti_by t next (omega arith)) (next_record p from) refl

module _ (out : Bool) (p : List ℕ) where
  given : (from used : ℕ) → from + used ≤ length p → (r : ParserResult) → Given used r → (rest : List Placed) → Costly (length p) (from + used) rest
      → Costly (length p) from (completed out (from + used) r ++ rest)
  unfolding Costly Given
  given from used i (ValidFrame w k v g r n) h rest later = (
    record {
      radio = record { region = h.1.1.1.1; channel = omega (arith, h.1.1.0); speed = omega (arith, h.1.1.1.0); rssi = signed_small r; beams = omega arith };
      mpdu = omega arith;
      mpdu_len = omega (arith, h.1.0);
    },
    (omega (arith, h.0), (i, later)),
  )
  given from used i (ValidCommand c n) h rest later = earlier (length p) from (from + used) (omega arith) rest later
  given from used i IncompleteFrame h rest later = earlier (length p) from (from + used) (omega arith) rest later
  given from used i InvalidFrame h rest later = earlier (length p) from (from + used) (omega arith) rest later

  zniffer_at : (from : ℕ) → ((end : ℕ) → from < end → Costly (length p) end (zniffer_from out p end)) → Dec (length p ≤ from) → Costly (length p) from (zniffer_from out p from)
  unfolding Costly
  zniffer_at from ih (yes l) = rw (zniffer.past_end out p from l) tt
  zniffer_at from ih (no l) =
      let ran = core_run_from 0 (drop from p) fresh_core in
      either (goes_on ran.result)
      (λ yes'. rw (zniffer.wants_more out p from yes') tt)
      (λ no'.
      rw (zniffer.gave out p from no')
      (given from ran.used (zniffer.used_inside out p from (omega arith)) ran.result (frame_given (drop from p)) (zniffer_from out p (from + ran.used))
      (ih (from + ran.used) (zniffer.used_further out p from (omega arith)))))

  zniffer_by : (t from : ℕ) → length p ≤ from + t → Costly (length p) from (zniffer_from out p from)
  unfolding Costly
  zniffer_by zero from h = rw (zniffer.past_end out p from (omega arith)) tt
  zniffer_by (suc t) from h = zniffer_at from (λ end l. zniffer_by t end (omega arith)) (dec_le (length p) from)

  by_kind : (a b : Bool) → Costly (length p) 0 (cond a (pti_from p 0) (cond b (zniffer_from out p 0) []))
  unfolding Costly
  by_kind true b = pti_by p (length p) 0 (omega arith)
  by_kind false true = zniffer_by (length p) 0 (omega arith)
  by_kind false false = tt

  -- the frames of a payload, of every kind
  pub frames_cost : (kind : ℕ) → Costly (length p) 0 (frames_from kind out p 0)
  unfolding frames_from
  frames_cost kind = by_kind (eqb kind 1 || eqb kind 2) (eqb kind 3)
