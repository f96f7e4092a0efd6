-- The text of each answer of the seam check, of the search and of the opening, and of each size of input. Assumes nothing.
use Prim.Native.Nat.{ℕ, ◌-◌, ◌≤◌}
use lib.Dec.{leb}
use lib.ListN.{length, take, drop, length-drop}
use lib.Seq.{length-take-le, take_all}
use mathlib.Core.Bool.{◌&&◌}
use mathlib.Core.List.{List}
use mathlib.Core.Path.{◌≡◌, refl, sym, ap, ◌∙◌}
use native.Mathlib.Omega.{arith}
use borrow.Author.Tests.{le-leb, leb-true}
use Rattle.std.specs.Prelude.{Option, None, Some, Ok, Err}
use Rattle.choice.proofs.Choice.{left_true, right_true, either}
use Rattle.io.specs.Counts.{IsPrefixLen}
use Rattle.layout.specs.Layout.{le_at}
use Rattle.record.specs.Record.{plausible}
use Rattle.resync.specs.Search.{search_refusal, found_or, told_search}
use Rattle.resync.specs.declared.Search.{Search}
use Rattle.resync.specs.declared.SearchError.{SearchError}
use Rattle.resync.specs.declared.SearchError.TheVariants as Search
use Rattle.seam.specs.Opening.{open_refusal, told_opening}
use Rattle.seam.specs.declared.OpenError.{OpenError}
use Rattle.seam.specs.declared.OpenError.TheVariants as Open
use Rattle.seam.specs.Seam.{SeamTold, seam_at, seam_refusal, told_seam}
use Rattle.seam.specs.declared.SeamError.{SeamError}
use Rattle.seam.specs.declared.SeamError.TheVariants as Seam
use Rattle.text.specs.Put.{Put}
use Rattle.text.proofs.Puts.{inside}
use Rattle.lines.specs.Lines.{refusal_text, none_text}
use Rattle.listing.specs.Listing.{seam_line, seam_found, opened_text, trace_text, list_text}

-- a seam check that is refused
pub unchecked : (place : ℕ) (e : SeamError) → refusal_text (seam_refusal e) ≡ seam_line place (told_seam (Err e))
unfolding seam_line
unchecked place Seam.TraceTooLong = refl
unchecked place Seam.PlaceOutside = refl

module _ (kinds s : List ℕ) where
  pub found_text : (found : Search) (offset : ℕ) (m : SeamTold) → found.offset ≡ Some offset → m ≡ seam_at plausible kinds s offset
      → seam_line offset m ≡ seam_found kinds s (told_search (Ok found))
  unfolding seam_found
  found_text found offset m e f = ap (seam_line offset) f ∙ ap (λ (o : Option ℕ). seam_found kinds s (found_or o found.judged)) (sym e)

  pub nothing_text : (found : Search) → found.offset ≡ None → none_text ≡ seam_found kinds s (told_search (Ok found))
  unfolding seam_found
  nothing_text found e = ap (λ (o : Option ℕ). seam_found kinds s (found_or o found.judged)) (sym e)

  pub unsearched : (e : SearchError) → refusal_text (search_refusal e) ≡ seam_found kinds s (told_search (Err e))
  unfolding seam_found
  unsearched Search.TraceTooLong = refl
  unsearched Search.WindowTooLong = refl

pub unopened : (rest : List ℕ) (e : OpenError) → refusal_text (open_refusal e) ≡ opened_text (told_opening (Err e)) rest
unfolding opened_text
unopened rest Open.TraceTooLong = refl
unopened rest Open.TraceTooShort = refl
unopened rest (Open.OtherVersion version) = refl

module _ (input : List ℕ) where
  pub unlisted_text : ((260 ≤ length input) × (length input ≤ 8192) → ⊥) → refusal_text 0 ≡ list_text input
  unfolding list_text
  unlisted_text h =
      either (leb 260 (length input) && leb (length input) 8192)
      (λ e. absurd (h (leb-true _ _ (left_true _ _ e), leb-true _ _ (right_true _ _ e))))
      (λ e. simp e)

  pub listed_text : (kinds : List ℕ) (version : ℕ) → kinds ≡ take 256 input → version ≡ le_at 4 input 256 → 260 ≤ length input → length input ≤ 8192
      → trace_text kinds version (take (length input - 260) (drop 260 input)) ≡ list_text input
  unfolding list_text
  listed_text kinds version k v l h =
      let whole : take (length input - 260) (drop 260 input) ≡ drop 260 input = take_all (length input - 260) (drop 260 input) (omega (arith, length-drop 260 input)) in
      simp (le-leb 260 (length input) l, le-leb (length input) 8192 h) (ap (λ (s : List ℕ). trace_text kinds version s) whole ∙ ap (λ (x : List ℕ). trace_text x version (drop 260 input)) k ∙ ap (λ (x : ℕ). trace_text (take 256 input) x (drop 260 input)) v)

-- what is put from the buffer's first place on counts bytes at its start
pub counted : {text before after : List ℕ} {r : ℕ} → Put text before 0 after r → IsPrefixLen r after
counted {after = after} {r} p = let h : r ≤ length after = inside p (omega arith) in (h, sym (length-take-le r after h))
