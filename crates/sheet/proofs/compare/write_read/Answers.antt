use mathlib.Core.Path.{refl}
use Rattle.sheet.proofs.Compared.{read_written}
use Rattle.sheet.proofs.compare.write_read.Goals as goal

pub returns : goal.returns
returns c = let s = c.args in read_written s.row.now s.text.now _ s.list refl _ _ _ _ c.write.ensures
