-- A class's bit of a byte's entry says whether the byte is in the class.
use Rattle.byte_classes.proofs.Table.{classed_bit}
use Rattle.byte_classes.proofs.ClassTable.passes.Goals as goal

pub returns : goal.returns
returns c = rw c.number.ensures (classed_bit c.args.class c.args.self.now.answers c.args.byte c.ranges.byte.fits)
