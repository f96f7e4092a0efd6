-- The answers of a page and of the seam check, as the records of numbers that the definitions give: a field each, in their order.
use Rattle.std.specs.Prelude.{length, drop, List, ◌++◌, ◌≡◌}
use Rattle.rows.specs.declared.Row.{Row}
use Rattle.paging.specs.Page.{PageTold, PageGiven}
use Rattle.seam.specs.Seam.{SeamTold}
use Rattle.capi_pages.specs.declared.pages.PageAnswer.{PageAnswer}
use Rattle.capi_pages.specs.declared.pages.SeamAnswer.{SeamAnswer}

abbrev pub page_told : PageAnswer → PageTold
page_told r = record { refusal = r.refusal; start = r.start; size = r.size; is_more = r.is_more; next = r.next }

-- a page's answer and the rows lent, afterwards: "Rows past those written are untouched"
pub record Paged (given : PageGiven) (page : PageAnswer) (before after : List Row) : Type 0 where
  pub told : page_told page ≡ given.told
  pub rows : after ≡ given.rows ++ drop (length given.rows) before

abbrev pub seam_told : SeamAnswer → SeamTold
seam_told r = record { refusal = r.refusal; is_unbroken = r.is_unbroken; place = r.place; records = r.records }
