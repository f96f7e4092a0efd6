-- `names::put_region` meets its contract: an entry of the tables. Assumes nothing.
use mathlib.Core.List.{◌++◌}
use Rattle.text.proofs.Puts.{renamed}
use Rattle.names.specs.Names.{pti_regions, zwave_regions, region_text}
use Rattle.names.proofs.Texts.{entry_at}
use Rattle.names.proofs.put_region.Goals as goal

pub returns : goal.returns
unfolding region_text pti_regions zwave_regions
returns c =
    renamed (entry_at (pti_regions ++ zwave_regions) 8 32 _ _ c.region_index.ensures.1 c.region_index.ensures.0) c.put_text.ensures
