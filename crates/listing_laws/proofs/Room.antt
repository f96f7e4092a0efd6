-- What `trace-list` relies on: no page of an input is refused with 7, and 131,072 bytes hold every list. Assumes nothing.
use Prim.Native.Nat.{ℕ, ◌+◌, ◌-◌, ◌*◌, ◌≤◌, ◌<◌}
use lib.Dec.{ltb, eqb, leb}
use lib.ListN.{length, get_or, take, drop, length-append, length-drop}
use lib.Seq.{get_or-drop, take-append_seam}
use mathlib.Core.Bool.{◌||◌, ◌&&◌}
use mathlib.Core.List.{List, [], ◌∷◌, ◌++◌}
use Rattle.std.specs.Prelude.{Option}
use mathlib.Core.Path.{◌≡◌, refl, ap, ◌∙◌}
use native.Mathlib.Omega.{arith}
use borrow.Author.Tests.{leb-true}
use Rattle.choice.proofs.Choice.{right_true, by_choice}
use Rattle.layout.specs.Layout.{le_at, header_size, trace_limit}
use Rattle.layout.proofs.Numbers.{below}
use Rattle.record.specs.Record.{plausible, next_at}
use Rattle.record.proofs.Steps.{Steps}
use Rattle.record.proofs.Valid.{record_steps}
use Rattle.resync.specs.Search.{start_of, search_from, default_window}
use Rattle.resync.proofs.Found.{FoundFirst, found_is}
use Rattle.seam.specs.Opening.{OpeningTold, opening_told, version_of, opening_of}
use Rattle.seam.specs.Seam.{Reached, reach, SeamTold, unbroken_with, broken_at, seam_refused, seam_of, seam_from, seam_at}
use Rattle.seam.proofs.Seams.{reach_stops, reach_on}
use Rattle.seam.proofs.Walks.{by_records}
use Rattle.text.specs.Put.{Put}
use Rattle.text.specs.Texts.{decimal_text}
use Rattle.text.proofs.Puts.{whole}
use Rattle.lines.specs.Lines.{refusal_text, version_text, unbroken_text, broken_text, none_text}
use Rattle.listing.specs.Listing.{page_of, pages_text, seam_line, seam_found, seam_text, opened_text, trace_text, list_text}
use Rattle.listing_laws.proofs.Texts.{most, number, line_most}
use Rattle.listing_laws.proofs.Pages.{page_fits, search_refusal, refusal_most, pages_most}

-- how many bytes `trace-list` has for its text
abbrev pub room : ℕ
room = 131072

-- no page of a trace that an input can hold is refused with 7
pub never_7 : (kinds s : List ℕ) → length s ≤ 7932 → (at : ℕ) → (page_of kinds s at).told.refusal ≡ 7 → ⊥
never_7 kinds s short at = (page_fits kinds s short at).room

-- where the records from a place on end, and how many they are
abbrev Ends : ℕ → ℕ → Reached → Type 0
Ends n at r = (r.records + at ≤ r.place) × (at ≤ n → r.place ≤ n)

ends : (next : ℕ → Option ℕ) (n : ℕ) → Steps next n → (at : ℕ) → Ends n at (reach next n at)
ends next n steps =
    by_records next n steps (λ (at : ℕ). Ends n at (reach next n at))
    (λ at e. rw (reach_stops next n steps at e) (omega arith, λ h. h))
    (λ at m e after. rw (reach_on next n steps at m e) (omega (arith, steps.grows at m e, after.0), λ h. after.1 (steps.inside at m e)))

-- the seam check's numbers
abbrev SmallSeam : SeamTold → Type 0
SmallSeam t = (t.refusal < most) × ((t.place < most) × (t.records < most))

module _ (kinds s : List ℕ) (short : length s ≤ 7932) where
  abbrev next : ℕ → Option ℕ
  next = next_at plausible kinds s

  abbrev n : ℕ
  n = length s

  seam_small : (at : ℕ) → at ≤ n → SmallSeam (seam_at plausible kinds s at)
  unfolding seam_from
  seam_small at h =
      let r = reach next n at in
      let e : Ends n at r = ends next n (record_steps plausible kinds s) at in
      let inside : r.place ≤ n = e.1 h in
      by_choice SmallSeam (ltb trace_limit n) {a = seam_refused 1} (λ x. (omega arith, (omega arith, omega arith)))
      (λ x.
      by_choice SmallSeam (ltb at header_size || ltb n at) {a = seam_refused 6} {b = seam_of n r} (λ y. (omega arith, (omega arith, omega arith)))
      (λ y.
      by_choice SmallSeam (eqb r.place n) {a = unbroken_with r.records} {b = broken_at r.place r.records}
      (λ z. (omega arith, (omega arith, omega (arith, e.0))))
      (λ z. (omega arith, (omega arith, omega (arith, e.0))))))

  -- the lines of the seam check
  seam_line_lem : (place : ℕ) → place < most → (t : SeamTold) → SmallSeam t → length (seam_line place t) ≤ 47
  unfolding seam_line
  seam_line_lem place p t m =
      by_choice (λ (l : List ℕ). length l ≤ 47) (eqb t.refusal 0) {b = refusal_text t.refusal}
      (λ e.
      by_choice (λ (l : List ℕ). length l ≤ 47) t.is_unbroken {a = unbroken_text place t.records} {b = broken_text place t.place t.records}
      (λ z. omega (arith, line_most 0x55 (decimal_text place ∷ decimal_text t.records ∷ []) (number place p, (number t.records m.1.1, tt))))
      (λ z. omega (arith, line_most 0x42 (decimal_text place ∷ decimal_text t.place ∷ decimal_text t.records ∷ []) (number place p, (number t.place m.1.0, (number t.records m.1.1, tt))))))
      (λ e. omega (arith, refusal_most t.refusal m.0))

  seam_text_lem : length (seam_text kinds s) ≤ 47
  unfolding seam_found
  seam_text_lem =
      let t = search_from plausible kinds s header_size default_window in
      by_choice (λ (l : List ℕ). length l ≤ 47) (eqb t.refusal 0) {b = refusal_text t.refusal}
      (λ e.
      by_choice (λ (l : List ℕ). length l ≤ 47) t.is_found {a = seam_line t.offset (seam_at plausible kinds s t.offset)} {b = none_text}
      (λ z.
      let f : FoundFirst next n (start_of header_size) default_window t = found_is next n header_size default_window t refl z in
      seam_line_lem t.offset (omega (arith, f.within)) (seam_at plausible kinds s t.offset) (seam_small t.offset (omega (arith, f.within))))
      (λ z. omega (arith, line_most 0x4E [] tt)))
      (λ e. omega (arith, refusal_most t.refusal (omega (arith, search_refusal next n header_size default_window))))

  pages_text_lem : 10 * length (pages_text (page_of kinds s) (seam_text kinds s) n header_size) ≤ 182 * (n - header_size) + 470
  pages_text_lem = pages_most (page_of kinds s) n (page_fits kinds s short) (seam_text kinds s) 47 seam_text_lem (omega arith) n header_size

  -- what opening says
  opening_small : (version : ℕ) → version_of s < most → ((opening_of s version).refusal < most) × ((opening_of s version).version < most)
  unfolding opening_of
  opening_small version v =
      let P : OpeningTold → Type 0 = λ o. (o.refusal < most) × (o.version < most) in
      by_choice P (ltb trace_limit n) {a = opening_told 1 0} (λ x. (omega arith, omega arith))
      (λ x.
      by_choice P (ltb n header_size) {a = opening_told 2 0} (λ y. (omega arith, omega arith))
      (λ y.
      by_choice P (eqb (version_of s) version) {a = opening_told 0 (version_of s)} {b = opening_told 4 (version_of s)} (λ z. (omega arith, v)) (λ z. (omega arith, v))))

  opened : (o : OpeningTold) → o.refusal < most → o.version < most → (rest : List ℕ) → 10 * length rest ≤ 1200000 → length (opened_text o rest) ≤ room
  unfolding opened_text
  opened o r v rest h =
      by_choice (λ (l : List ℕ). length l ≤ room) (eqb o.refusal 0) {a = version_text o.version ++ rest} {b = refusal_text o.refusal}
      (λ e. omega (arith, length-append (version_text o.version) rest, line_most 0x56 (decimal_text o.version ∷ []) (number o.version v, tt)))
      (λ e. omega (arith, refusal_most o.refusal r))

  trace_text_lem : (version : ℕ) → version_of s < most → length (trace_text kinds version s) ≤ room
  trace_text_lem version v =
      let o = opening_small version v in
      opened (opening_of s version) o.0 o.1 (pages_text (page_of kinds s) (seam_text kinds s) n header_size) (omega (arith, pages_text_lem))

-- the text for every input of bytes
pub list_fits : (input : List ℕ) → ((k : ℕ) → get_or input k 0 < 256) → length (list_text input) ≤ room
unfolding list_text
list_fits input bytes =
    by_choice (λ (l : List ℕ). length l ≤ room) (leb 260 (length input) && leb (length input) 8192)
    {a = trace_text (take 256 input) (le_at 4 input 256) (drop 260 input)} {b = refusal_text 0}
    (λ e.
    let long : length input ≤ 8192 = leb-true (length input) 8192 (right_true (leb 260 (length input)) (leb (length input) 8192) e) in
    trace_text_lem (take 256 input) (drop 260 input) (omega (arith, length-drop 260 input)) (le_at 4 input 256)
    (omega (arith, below 4 (drop 260 input) 0 (λ k. rw (get_or-drop 260 input k 0) (bytes (260 + k))))))
    (λ e. omega (arith, refusal_most 0 (omega arith)))

-- so in a buffer of that many bytes stands the whole of it
pub whole_list : (input before after : List ℕ) (r : ℕ) → ((k : ℕ) → get_or input k 0 < 256) → room ≤ length before → Put (list_text input) before 0 after r
    → take r after ≡ list_text input
whole_list input before after r bytes long p =
    let w = whole p (omega (arith, list_fits input bytes)) in
    let text = list_text input in
    let size : r ≡ length text = w.1 ∙ omega arith in
    ap (λ (k : ℕ). take k after) size
    ∙ ap (take (length text)) w.0
    ∙ take-append_seam text (drop (0 + length text) before)
