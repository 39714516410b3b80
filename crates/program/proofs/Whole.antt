-- A byte more than a table or a text may have is as good as all of them.
use Rattle.std.proofs.Common.{ℕ, ◌≡◌, ◌+◌, ◌<◌, Bool, true, false, Option, None, Some, Result, Ok, Err}
use Rattle.std.proofs.Common.{IfSome, OnOk, OnErr, length, take, refl, subst, arith}
use Rattle.std.proofs.lemmas.List.{length-replicate, length-take-le, take_all}
use Rattle.std.proofs.lemmas.Bool.{leb-true, leb-false, lt-leb}
use lib.Dec.{leb}
use Rattle.meaning.specs.Choice.{Bytes}
use Rattle.meaning.specs.Tree.{Table}
use Rattle.meaning.specs.Allowed.{max_table}
use Rattle.meaning.specs.Reading.{Read, accepted, refused, read}
use Rattle.meaning.specs.Leaving.{Cells}
use Rattle.engine.specs.TableRuns.{table_leaving, table_run}
use Rattle.program.specs.Printed.{lent_bytes, cells_each, lent_cells, code_words, start_function, program_allowance, printed}

lent_length : length lent_bytes ≡ cells_each
unfolding lent_bytes
lent_length = length-replicate {A = ℕ} cells_each 0

-- a text that is longer than in is refused, and a shorter one is all taken
leaving_cut : (n : ℕ) (t : Table) (start : ℕ) (text : Bytes) (cells : Cells) (allowance : ℕ) → length cells.stack_in < n
    → table_leaving t start (take n text) cells allowance ≡ table_leaving t start text cells allowance
leaving_cut n t start text cells allowance less = by (leb (length text) n) refl
  where
    by : (b : Bool) → leb (length text) n ≡ b
        → table_leaving t start (take n text) cells allowance ≡ table_leaving t start text cells allowance
    by true e = rw (take_all n text (leb-true _ _ e))
    by false e =
        let long = leb-false _ _ e in
        let size = length-take-le n text (omega arith) in
        rw (lt-leb (length text) (length cells.stack_in) (omega arith), lt-leb (length (take n text)) (length cells.stack_in) (omega arith))

run_cut : (n : ℕ) (x : Read) (room start : ℕ) (text : Bytes) (cells : Cells) (allowance : ℕ) → length cells.stack_in < n
    → table_run x room start (take n text) cells allowance ≡ table_run x room start text cells allowance
run_cut n (refused number place) room start text cells allowance less = refl
run_cut n (accepted t) room start text cells allowance less = rw (leaving_cut n t start text cells allowance less)

read_cut : (n : ℕ) (table : Bytes) → max_table < n → read (take n table) ≡ read table
read_cut n table less = by (leb (length table) n) refl
  where
    by : (b : Bool) → leb (length table) n ≡ b → read (take n table) ≡ read table
    by true e = rw (take_all n table (leb-true _ _ e))
    by false e =
        let long = leb-false _ _ e in
        let size = length-take-le n table (omega arith) in
        rw (lt-leb (length table) max_table (omega arith), lt-leb (length (take n table)) max_table (omega arith))

pub printed_cut : (table text : Bytes) → printed (take (cells_each + 1) table) (take (cells_each + 1) text) ≡ printed table text
printed_cut table text =
    let reads = read_cut (cells_each + 1) table (omega arith) in
    let runs =
    run_cut (cells_each + 1) (read table) code_words start_function text lent_cells program_allowance (omega (arith, lent_length)) in
    rw (reads, runs)

-- so what is printed for the bytes that are read is what is printed for all of them
module _ (table text : Bytes) (P : Bytes → Type 0) where
  whole : (t x : Option Bytes) → IfSome t (λ bytes. table ≡ take (cells_each + 1) bytes) → IfSome x (λ bytes. text ≡ take (cells_each + 1) bytes)
      → P (printed table text) → IfSome t (λ t. IfSome x (λ x. P (printed t x)))
  whole None x e f p = tt
  whole (Some t) None e f p = tt
  whole (Some t) (Some x) e f p = subst P (rw (e, f) (printed_cut t x)) p

  pub whole_ok : {A E : Type 0} (r : Result A E) (t x : Option Bytes) → IfSome t (λ bytes. table ≡ take (cells_each + 1) bytes)
      → IfSome x (λ bytes. text ≡ take (cells_each + 1) bytes) → OnOk r (P (printed table text))
      → OnOk r (IfSome t (λ t. IfSome x (λ x. P (printed t x))))
  whole_ok (Ok a) t x e f p = whole t x e f p
  whole_ok (Err b) t x e f p = tt

  pub whole_err : {A E : Type 0} (r : Result A E) (t x : Option Bytes) → IfSome t (λ bytes. table ≡ take (cells_each + 1) bytes)
      → IfSome x (λ bytes. text ≡ take (cells_each + 1) bytes) → OnErr r (P (printed table text))
      → OnErr r (IfSome t (λ t. IfSome x (λ x. P (printed t x))))
  whole_err (Ok a) t x e f p = tt
  whole_err (Err b) t x e f p = whole t x e f p
