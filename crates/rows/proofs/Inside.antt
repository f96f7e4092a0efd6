-- Every frame's MPDU lies inside its record's payload, and a Zniffer frame's MPDU is the payload that the whole parser hands out. Assumes nothing.
use Prim.Native.Nat.{ℕ, zero, suc, ◌+◌, ◌-◌, ◌≤◌, ◌<◌}
use lib.Dec.{eqb}
use lib.ListN.{length, get_or, take, drop, length-drop}
use lib.Seq.{length-take-le, drop-drop, get_or-drop}
use mathlib.Core.Bool.{Bool, true, false, ◌||◌, cond}
use mathlib.Core.List.{List, [], ◌∷◌, ◌++◌}
use mathlib.Core.Path.{◌≡◌, refl, sym, ap, ◌∙◌}
use native.Mathlib.Decide.{dec_le}
use native.Mathlib.Omega.{arith}
use Rattle.choice.proofs.Choice.{either}
use Rattle.pti.proofs.Mpdus.{mpdu_inside}
use Rattle.bracket.proofs.Splitting.{body_inside, next_further}
use Rattle.bracket.specs.Bracket.{next_record}
use Rattle.pti.specs.Frame.{frame_of}
use Rattle.bracket.specs.declared.Body.{Body}
use Rattle.pti.specs.declared.PtiFrame.{PtiFrame}
use Rattle.std.specs.Prelude.{Option, None, Some}
use Rattle.zniffer_laws.proofs.Theorems.{numbers_agree, payload_ends_there}
use Rattle.zniffer.specs.Parse.{fresh_parser, run_from}
use Rattle.zniffer_laws.specs.Statements.{length_of, EndsThere}
use Rattle.zniffer_numbers.specs.Numbers.{fresh_core, goes_on}
use Rattle.zniffer_core.specs.Run.{core_run_from}
use Rattle.zniffer_core.specs.declared.CoreRan.{CoreRan}
use Rattle.zniffer_numbers.specs.declared.ParserResult.{ParserResult}
use Rattle.zniffer_numbers.specs.declared.ParserResult.TheVariants.{ValidCommand, ValidFrame, IncompleteFrame, InvalidFrame}
use Rattle.rows.specs.Frames.{Placed, held_by, pti_from, completed, zniffer_from, frames_from}
use Rattle.rows.proofs.Pti as pti
use Rattle.rows.proofs.Zniffer as zniffer

-- every frame of a list
unfoldable pub AllIn : ℕ → List Placed → Type 0
AllIn n [] = Unit
AllIn n (f ∷ fs) = (f.frame.mpdu + f.frame.mpdu_len ≤ n) × AllIn n fs

module _ (p : List ℕ) where
  held_in : (at len : ℕ) (r : Option PtiFrame) → frame_of (take len (drop at p)) ≡ r → at + len ≤ length p → (rest : List Placed) → AllIn (length p) rest → AllIn (length p) (held_by at len r ++ rest)
  unfolding AllIn
  held_in at len None e i rest h = h
  held_in at len (Some f) e i rest h =
      let size : length (take len (drop at p)) ≡ len = length-take-le len (drop at p) (simp length-drop (omega arith)) in
      (omega (arith, mpdu_inside (take len (drop at p)) f e), h)

  pti_at : (from : ℕ) → ((next : ℕ) → from < next → AllIn (length p) (pti_from p next)) → (r : Option Body) → next_record p from ≡ r → AllIn (length p) (pti_from p from)
  unfolding AllIn
  pti_at from ih None e = rw (pti.no_body p from e) tt
  pti_at from ih (Some b) e =
      rw (pti.body p from b e)
      (held_in b.at b.len (frame_of (take b.len (drop b.at p))) refl (body_inside p from b e) (pti_from p b.next) (ih b.next (next_further p from b e)))

  pub pti_by : (t from : ℕ) → length p ≤ from + t → AllIn (length p) (pti_from p from)
  unfolding AllIn
  pti_by zero from h = rw (pti.past_end p from (omega arith)) tt
  pti_by (suc t) from h = pti_at from (λ next l. pti_by t next (omega arith)) (next_record p from) refl

module _ (out : Bool) (p : List ℕ) (bytes : (k : ℕ) → get_or p k 0 < 256) where
  -- the bytes from a place on
  from_there : (from : ℕ) → EndsThere (drop from p) (run_from 0 (drop from p) fresh_parser).out.answer (run_from 0 (drop from p) fresh_parser).out.used
  from_there from = payload_ends_there (drop from p) (λ k. rw (get_or-drop from p k 0) (bytes (from + k)))

  module _ (from : ℕ) where
    abbrev ran : CoreRan
    ran = core_run_from 0 (drop from p) fresh_core

    abbrev whole_result : ParserResult
    whole_result = (run_from 0 (drop from p) fresh_parser).out.answer.result

    same_result : ran.result ≡ whole_result
    same_result = ap (λ (x : CoreRan). x.result) (numbers_agree fresh_parser (drop from p))

    same_used : ran.used ≡ (run_from 0 (drop from p) fresh_parser).out.used
    same_used = ap (λ (x : CoreRan). x.used) (numbers_agree fresh_parser (drop from p))

    fits : length_of ran.result ≤ ran.used
    fits = rw same_result (rw same_used (from_there from).fits)

    -- the MPDU of the frame that a run completes is what the whole parser hands out
    pub mpdu_bytes : (w k v g r n : ℕ) → ran.result ≡ ValidFrame w k v g r n
        → take n (drop (from + ran.used - n) p) ≡ take n (run_from 0 (drop from p) fresh_parser).out.answer.payload
    mpdu_bytes w k v g r n e =
        let size : length_of whole_result ≡ n = ap length_of (sym same_result ∙ e) in
        let long : n ≤ ran.used = rw (ap length_of e) at fits in
        let place : from + ran.used - n ≡ from + (ran.used - n) = omega arith in
        let said = rw (sym same_used) at (rw size at (from_there from).bytes) in
        rw place (rw (sym (drop-drop (ran.used - n) from p)) (sym said))

  result_in : (end : ℕ) → end ≤ length p → (r : ParserResult) → length_of r ≤ end → (rest : List Placed) → AllIn (length p) rest → AllIn (length p) (completed out end r ++ rest)
  unfolding AllIn
  result_in end i (ValidFrame w k v g r n) h rest later = (omega arith, later)
  result_in end i (ValidCommand c n) h rest later = later
  result_in end i IncompleteFrame h rest later = later
  result_in end i InvalidFrame h rest later = later

  zniffer_at : (from : ℕ) → ((end : ℕ) → from < end → AllIn (length p) (zniffer_from out p end)) → Dec (length p ≤ from) → AllIn (length p) (zniffer_from out p from)
  unfolding AllIn
  zniffer_at from ih (yes l) = rw (zniffer.past_end out p from l) tt
  zniffer_at from ih (no l) =
      let end = from + (ran from).used in
      either (goes_on (ran from).result)
      (λ yes'. rw (zniffer.wants_more out p from yes') tt)
      (λ no'.
      rw (zniffer.gave out p from no')
      (result_in end (zniffer.used_inside out p from (omega arith)) (ran from).result (omega (arith, fits from)) (zniffer_from out p end) (ih end (zniffer.used_further out p from (omega arith)))))

  zniffer_by : (t from : ℕ) → length p ≤ from + t → AllIn (length p) (zniffer_from out p from)
  unfolding AllIn
  zniffer_by zero from h = rw (zniffer.past_end out p from (omega arith)) tt
  zniffer_by (suc t) from h = zniffer_at from (λ end l. zniffer_by t end (omega arith)) (dec_le (length p) from)

  all_by : (a b : Bool) → AllIn (length p) (cond a (pti_from p 0) (cond b (zniffer_from out p 0) []))
  unfolding AllIn
  all_by true b = pti_by p (length p) 0 (omega arith)
  all_by false true = zniffer_by (length p) 0 (omega arith)
  all_by false false = tt

  -- of every kind
  pub all_inside : (kind : ℕ) → AllIn (length p) (frames_from kind out p 0)
  unfolding frames_from
  all_inside kind = all_by (eqb kind 1 || eqb kind 2) (eqb kind 3)
