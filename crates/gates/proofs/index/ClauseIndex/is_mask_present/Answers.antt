use Rattle.gates.proofs.Queries.{masked_once}
use Rattle.gates.proofs.index.ClauseIndex.is_mask_present.Goals as goal

pub is_present-requires : goal.is_present-requires
is_present-requires c = masked_once _ _ c.requires
