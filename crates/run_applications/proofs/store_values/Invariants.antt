-- The loop invariant of `store_values`: so many values are stored, and the stores that are left come next.
use Rattle.run_applications.proofs.Laws.Storing.{Storing}
use Rattle.run_applications.proofs.store_values.Given as goal

abbrev pub invariant-loop-i : goal.invariant-loop-i
invariant-loop-i l = Storing l.code l.field l.place l.base l.count l.initial.at l.initial.values l.values l.at l.i
