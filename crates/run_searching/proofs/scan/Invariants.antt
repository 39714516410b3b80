-- The loop invariant of `scan`: the search from this place on finds what the search from the first place on finds.
use Prim.Native.Nat.{◌+◌, ◌-◌}
use mathlib.Core.Path.{◌≡◌}
use Rattle.meaning.specs.Instructions.{from_place, look}
use Rattle.meaning.specs.Matching.{check}
use Rattle.meaning.specs.Matching.{search as searched}
use Rattle.meaning.specs.Packing.{second_in, third_in}
use Rattle.run_searching.proofs.scan.Given as goal

abbrev pub invariant-loop-here : goal.invariant-loop-here
invariant-loop-here l =
    searched (check (look (from_place (second_in l.fn.word.0)) (third_in l.fn.word.0)) l.field) (l.fn.first + l.fn.places - l.here) l.here ≡
    searched (check (look (from_place (second_in l.fn.word.0)) (third_in l.fn.word.0)) l.field) l.fn.places l.fn.first
