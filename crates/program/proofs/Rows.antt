-- Worked rows of what the program prints.
use Prim.Native.String.{String}
use mathlib.Core.Path.{◌≡◌, refl}
use mathlib.Core.List.{List, [], ◌∷◌, map}
use Rattle.meaning.proofs.Rows.Read.{bytes, hold}
use Rattle.meaning.proofs.Rows.Computing.{computing}
use Rattle.program_printing.specs.Texts.{numeral_of, profile_lines}
use Rattle.program.specs.Printed.{lent_bytes, printed}

-- a table's text, a text and what is printed for them
pub record Row : Type 0 where
  pub table : String
  pub text : String
  pub output : String

abbrev prints : String → String → String → Row
prints table text output = record { table = table; text = text; output = output }

abbrev pub rows : List Row
rows =
    -- "R on `abc` prints `0 0 4` and `cba`", and "adds `1 G 4` and `total 4`"
    prints "G { s1 e2 = <G e2> s1; = }" "abc" "0 0 4\ncba\n1 G 4\ntotal 4\n"
    -- the record before the result; the function that fits nothing
    ∷ prints "M { e1 = <EmitA 'x'> <N e1> } N { 'q' = 'y' }" "q" "0 0 2\nEmitA x\ny\n1 M 1\n2 N 1\ntotal 2\n"
    ∷ prints "M { e1 = <EmitA 'x'> <N e1> } N { 'q' = 'y' }" "r" "11 2 2\nEmitA x\n\n1 M 1\n2 N 1\ntotal 2\n"
    -- "For a refused table it prints number and place only"; without a function there is no start
    ∷ prints "F{e1=e1 e1}" "abc" "7 8\n"
    ∷ prints "" "abc" "9 0 0\n\ntotal 0\n"
    ∷ []

pub printed-rows : map (λ (r : Row). printed (bytes r.table) (bytes r.text)) rows ≡ map (λ (r : Row). bytes r.output) rows
unfolding computing hold lent_bytes numeral_of profile_lines
printed-rows = refl
