-- A promise determines its answer: two answers that are told as the same record of numbers are equal. Assumes nothing.
use mathlib.Core.Path.{◌≡◌}
use Rattle.capi_pages.specs.Pages.{page_told, seam_told}
use Rattle.capi_pages.specs.declared.pages.PageAnswer.{PageAnswer}
use Rattle.capi_pages.specs.declared.pages.SeamAnswer.{SeamAnswer}

pub page_only : (a b : PageAnswer) → page_told a ≡ page_told b → a ≡ b
page_only a b e = λ i. record { refusal = (e i).refusal; start = (e i).start; size = (e i).size; is_more = (e i).is_more; next = (e i).next }

pub seam_only : (a b : SeamAnswer) → seam_told a ≡ seam_told b → a ≡ b
seam_only a b e = λ i. record { refusal = (e i).refusal; is_unbroken = (e i).is_unbroken; place = (e i).place; records = (e i).records }
