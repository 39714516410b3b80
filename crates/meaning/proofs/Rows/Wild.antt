-- Words that no translation writes: 18 in the function table changes nothing, and 18 met later ends the run like any early stop.
use Prim.Native.Nat.{ℕ, zero, suc, ◌-◌}
use mathlib.Core.Path.{◌≡◌, refl}
use mathlib.Core.Bool.{true}
use mathlib.Core.List.{List, [], ◌∷◌, ◌++◌, map}
use lib.ListN.{length, replicate}
use Rattle.meaning.specs.Choice.{Bytes}
use Rattle.meaning.specs.Angles.{plus}
use Rattle.meaning.specs.Classes.{digit, lower}
use Rattle.meaning.specs.Instructions.{from_start, from_end, from_place, Test, look, predicate_part, Store, store, null, whole, left, right, Span}
use Rattle.meaning.specs.Instructions.{Action, go, select, out, out_c, out_v, begin_seq, use_seq, call, tail_call, emission, compute}
use Rattle.meaning.specs.Instructions.{Metric, exactly, ends, Sentences, no_more, sentence}
use Rattle.meaning.specs.Packing.{Words, code_word, counts_word, end_word, pack}
use Rattle.meaning.specs.Leaving.{Cells, Leaving, leaving}
use Rattle.meaning.proofs.Rows.Starred.{result}
use Rattle.meaning.proofs.Rows.Read.{bytes}
use Rattle.meaning.proofs.Rows.Computing.{computing}

pub record Row : Type 0 where
  pub words : Words
  pub text : Bytes
  pub leaves : Leaving

abbrev cells : Bytes → Bytes → Bytes → Cells
cells i o j = record { stack_in = i; stack_out = o; «record» = j }

-- what each row is lent: so many cells of in and of out, bytes of the record, and steps
abbrev in_size : ℕ
in_size = 11

abbrev out_size : ℕ
out_size = 4

abbrev record_size : ℕ
record_size = 5

abbrev allowance : ℕ
allowance = 5

abbrev lent : Cells
lent = cells (replicate in_size 7) (replicate out_size 8) (replicate record_size 9)

-- the record after these emissions
abbrev record_with : Bytes → Bytes
record_with emissions = emissions ++ replicate (record_size - length emissions) 9

-- a run that stopped with an answer: in and out are zero, and the record has just the emissions from before it
abbrev stopped_counting : ℕ → Bytes → ℕ → List ℕ → Bytes → Words → Row
stopped_counting answer text steps counts emissions words =
    record {
      words = words;
      text = text;
      leaves =
          record {
            result = result answer 0 steps counts [] emissions;
            cells = cells (replicate in_size 0) (replicate out_size 0) (record_with emissions);
          };
    }

-- each function that was applied was so once
abbrev stopped_with : ℕ → Bytes → ℕ → Bytes → Words → Row
stopped_with answer text steps emissions words = stopped_counting answer text steps (replicate steps 1) emissions words

-- refused before the run: nothing is changed
abbrev unchanged : Words → Row
unchanged words =
    record {
      words = words;
      text = 97 ∷ [];
      leaves = record { result = result 18 0 0 [] [] []; cells = lent };
    }

-- stopped with 18 in the first application, before any emission
abbrev wrong : Words → Row
wrong words = stopped_with 18 (97 ∷ []) 1 [] words

-- where the words are instructions after all: the text, the steps, the counts, the emissions, and what is given, which is then on out
abbrev ended_counting : Bytes → ℕ → List ℕ → Bytes → Bytes → Words → Row
ended_counting text steps counts emissions given words =
    record {
      words = words;
      text = text;
      leaves =
          record {
            result = result 0 0 steps counts given emissions;
            cells = cells (replicate in_size 0) (given ++ replicate (out_size - length given) 0) (record_with emissions);
          };
    }

abbrev ended_emitting : Bytes → ℕ → Bytes → Bytes → Words → Row
ended_emitting text steps emissions given words = ended_counting text steps (replicate steps 1) emissions given words

abbrev ended : Bytes → ℕ → Bytes → Words → Row
ended text steps given words = ended_emitting text steps [] given words

abbrev finished : Words → Row
finished words = ended (97 ∷ []) 1 [] words

-- so many numbers from one on
unfoldable pub counting : ℕ → ℕ → List ℕ
counting n zero = []
counting n (suc count) = n ∷ counting (suc n) count

-- one function of one sentence, which asks for a field of one byte: its tests, stores and actions
abbrev code : Words → Words → Words → Words
code tests stores actions =
    1 ∷ 2 ∷
    code_word 16 1 0 0 ∷ counts_word (length tests) (length stores) (length (tests ++ stores ++ actions)) ∷
    tests ++ stores ++ actions ++ 19 ∷ []

abbrev tests : Words → Words
tests ws = code ws [] (15 ∷ [])

abbrev stores : Words → Words
stores ws = code [] ws (15 ∷ [])

abbrev actions : Words → Words
actions ws = code [] [] (ws ++ 15 ∷ [])

-- THE FUNCTION TABLE
abbrev table_rows : List Row
table_rows =
    -- no count
    unchanged [] ∷
    -- two functions, and one entry
    unchanged (2 ∷ 1 ∷ []) ∷
    -- an entry outside the code
    unchanged (1 ∷ 2 ∷ []) ∷
    unchanged (1 ∷ 4294967295 ∷ 272 ∷ 65536 ∷ 15 ∷ 19 ∷ []) ∷ []

-- SENTENCES, TESTS AND STORES
abbrev match_rows : List Row
match_rows =
    -- an entry at a word that begins no sentence; a sentence that is cut off
    wrong (1 ∷ 0 ∷ 15 ∷ 19 ∷ []) ∷
    wrong (1 ∷ 2 ∷ 272 ∷ []) ∷
    wrong (1 ∷ 2 ∷ 272 ∷ 65537 ∷ []) ∷
    -- a test of another number, a register, a class and a cell that are not there
    wrong (tests (code_word 4 0 0 0 ∷ [])) ∷
    wrong (tests (code_word 1 3 0 97 ∷ [])) ∷
    wrong (tests (code_word 3 4 0 5 ∷ [])) ∷
    wrong (tests (code_word 1 0 1 97 ∷ [])) ∷
    -- a Predicate over a part: registers and a class that are not there, a start after its end, and cells before p or past q
    wrong (tests (code_word 20 3 0 0 ∷ [])) ∷
    wrong (tests (code_word 20 12 0 0 ∷ [])) ∷
    wrong (tests (code_word 20 160 0 0 ∷ [])) ∷
    wrong (tests (code_word 20 0 1 0 ∷ [])) ∷
    wrong (tests (code_word 20 1 2 0 ∷ [])) ∷
    wrong (tests (code_word 20 4 0 2 ∷ [])) ∷
    wrong (tests (code_word 20 0 0 2 ∷ [])) ∷
    -- the whole field is of small letters, and no digit; the empty part at q is of digits
    finished (tests (code_word 20 84 0 0 ∷ code_word 20 4 0 0 ∷ code_word 20 20 1 0 ∷ [])) ∷
    -- a store of another number, a cell that is not there, and one store too many
    wrong (stores (code_word 5 0 0 0 ∷ [])) ∷
    wrong (stores (code_word 4 1 2 0 ∷ [])) ∷
    wrong (stores (replicate 17 4)) ∷
    finished (stores (replicate 16 4)) ∷ []
    -- numbers that begin no sentence, are no test and no store
    ++ map (λ n. wrong (1 ∷ 2 ∷ n ∷ 65536 ∷ 15 ∷ 19 ∷ [])) (counting 0 16 ++ counting 20 236)
    ++ map (λ n. wrong (tests (n ∷ []))) (0 ∷ counting 4 16 ++ counting 21 235)
    ++ map (λ n. wrong (stores (n ∷ []))) (counting 0 4 ++ counting 5 251)

-- ACTIONS
abbrev action_rows : List Row
action_rows =
    -- an unknown number in the middle, and no end
    wrong (actions (code_word 8 97 0 0 ∷ 99 ∷ code_word 8 98 0 0 ∷ [])) ∷
    wrong (1 ∷ 2 ∷ 272 ∷ 65536 ∷ code_word 8 97 0 0 ∷ []) ∷
    -- a length that is not there; Go and Select past the stack
    wrong (actions (code_word 5 4 0 0 ∷ [])) ∷
    wrong (actions (code_word 5 0 2 0 ∷ [])) ∷
    finished (actions (code_word 5 0 1 0 ∷ [])) ∷
    wrong (actions (code_word 6 1 1 0 ∷ [])) ∷
    -- a value that is not stored
    wrong (code [] (4 ∷ []) (code_word 9 1 0 0 ∷ 15 ∷ [])) ∷
    -- a call past the count, and of function 0
    wrong (actions (524 ∷ [])) ∷
    wrong (actions (525 ∷ [])) ∷
    wrong (actions (12 ∷ [])) ∷
    -- UseSeq without BeginSeq, and 17 BeginSeq
    wrong (actions (11 ∷ [])) ∷
    wrong (actions (replicate 17 10)) ∷
    finished (actions (replicate 16 10)) ∷
    -- a name byte over 255, and a name that the words do not hold
    wrong (actions (code_word 14 1 0 0 ∷ 256 ∷ [])) ∷
    wrong (actions (code_word 14 4 0 0 ∷ 65 ∷ [])) ∷
    -- an angle call with an operand above 1
    wrong (actions (code_word 21 2 0 0 ∷ [])) ∷
    -- after an emission, and in a called function
    stopped_with 18 (97 ∷ []) 1 (65 ∷ 32 ∷ 10 ∷ []) (actions (code_word 14 1 0 0 ∷ 65 ∷ 0 ∷ [])) ∷
    stopped_with 18 (97 ∷ []) 2 [] (2 ∷ 3 ∷ 8 ∷ 272 ∷ 131072 ∷ 524 ∷ 15 ∷ 19 ∷ 0 ∷ 65536 ∷ 15 ∷ 19 ∷ []) ∷ []
    -- numbers that are no action: among them would be OutS, PutC, PutV and Loop, which have none
    ++ map (λ n. wrong (actions (n ∷ []))) (counting 0 5 ++ counting 16 5 ++ counting 22 234)

-- WHAT EACH INSTRUCTION DOES, in sentences for any field, on the text `ab`
abbrev cells_on : ℕ → Span
cells_on n = record { register = null; add = n; back = 0 }

abbrev field : ℕ → Span
field back = record { register = whole; add = 0; back = back }

abbrev any_field : List Action → Sentences
any_field actions = sentence (ends 0 0) [] [] actions (no_more 0)

-- the actions of one function that stores the field's first byte, of two functions
abbrev doing : List Action → Words
doing actions = pack (sentence (ends 0 0) [] (store (from_start 0) ∷ []) actions (no_more 0) ∷ [])

abbrev doing_both : List Action → List Action → Words
doing_both first second = pack (any_field first ∷ any_field second ∷ [])

abbrev gives : Bytes → List Action → Row
gives result actions = ended (97 ∷ 98 ∷ []) 1 result (doing actions)

abbrev both_give : Bytes → List Action → List Action → Row
both_give result first second = ended (97 ∷ 98 ∷ []) 2 result (doing_both first second)

-- every cell of out is written
abbrev full : List Action
full = replicate out_size (out_c 99)

abbrev doing_rows : List Row
doing_rows =
    -- Go moves q to p; Select counts on from q; Out moves p to q
    gives [] (select (field 0) ∷ go (cells_on 1) ∷ out ∷ []) ∷
    gives (97 ∷ 98 ∷ []) (select (cells_on 1) ∷ select (cells_on 1) ∷ out ∷ out ∷ []) ∷
    gives (98 ∷ []) (select (cells_on 1) ∷ go (cells_on 1) ∷ select (cells_on 1) ∷ out ∷ []) ∷
    -- OutC, OutV and BeginSeq leave p and q
    gives (99 ∷ 97 ∷ []) (select (cells_on 1) ∷ out_c 99 ∷ out ∷ []) ∷
    gives (97 ∷ 97 ∷ []) (select (cells_on 1) ∷ out_v 0 ∷ out ∷ []) ∷
    gives (97 ∷ []) (select (cells_on 1) ∷ begin_seq ∷ out ∷ []) ∷
    -- UseSeq takes what came to out since the latest BeginSeq
    gives (99 ∷ 100 ∷ []) (out_c 99 ∷ begin_seq ∷ out_c 100 ∷ use_seq ∷ out ∷ []) ∷
    gives (99 ∷ 100 ∷ []) (begin_seq ∷ out_c 99 ∷ begin_seq ∷ out_c 100 ∷ use_seq ∷ out ∷ use_seq ∷ out ∷ []) ∷
    -- an emission moves p to q
    ended_emitting (97 ∷ 98 ∷ []) 1 (65 ∷ 32 ∷ 97 ∷ 10 ∷ []) (98 ∷ [])
    (doing (select (cells_on 1) ∷ emission (65 ∷ []) ∷ select (cells_on 1) ∷ out ∷ [])) ∷
    -- nothing comes after a tail call
    both_give [] (tail_call 2 ∷ out_c 120 ∷ []) [] ∷
    -- a sequence is open in the application that opened it alone
    stopped_with 18 (97 ∷ 98 ∷ []) 2 [] (doing_both (begin_seq ∷ call 2 ∷ []) (use_seq ∷ [])) ∷
    -- 18 comes before 14
    stopped_with 18 (97 ∷ 98 ∷ []) 1 [] (doing (full ++ out_v 1 ∷ [])) ∷
    stopped_with 14 (97 ∷ 98 ∷ []) 1 [] (doing (full ++ out_v 0 ∷ [])) ∷
    -- a span below zero counts as zero
    gives (97 ∷ 98 ∷ []) (go (record { register = null; add = 1; back = 3 }) ∷ select (field 0) ∷ out ∷ []) ∷
    gives [] (select (record { register = whole; add = 0; back = 3 }) ∷ out ∷ []) ∷ []

-- AN ANGLE CALL on the whole text, after these actions
abbrev adding_after : List Action → Words
adding_after before = pack (any_field (before ++ select (field 0) ∷ compute plus ∷ []) ∷ [])

abbrev angle_rows : List Row
angle_rows =
    -- the sum takes all of out, and one cell more than are left
    ended (bytes "0:00 0:01") 1 (bytes "0:01") (adding_after []) ∷
    stopped_with 14 (bytes "0:00 0:01") 1 [] (adding_after (out_c 99 ∷ [])) ∷
    -- 20 and 21 come before 14
    stopped_with 20 (bytes "0:00") 1 [] (adding_after full) ∷
    stopped_with 21 (bytes "359:59 0:01") 1 [] (adding_after full) ∷ []

-- WHERE THE ALLOWANCE IS SPENT: each function calls the next, in one way for all, and the last one a function that is there or not
abbrev calling_on : (ℕ → Action) → ℕ → Words
calling_on calling last = pack (map (λ f. any_field (calling f ∷ [])) (counting 2 (allowance - 1) ++ last ∷ []))

abbrev spent_rows : (ℕ → Action) → List Row
spent_rows calling =
    stopped_with 12 (97 ∷ []) allowance [] (calling_on calling 1) ∷
    -- 18 comes before 12
    stopped_with 18 (97 ∷ []) allowance [] (calling_on calling 9) ∷ []

-- WITHOUT A MIDDLE TEMPLATE i is the field's first cell, so that dl is 0 and dr is d: in a test, in a store and in spans
abbrev placeless : Metric → List Test → List Store → List Action → Words
placeless metric tests stores actions = pack (sentence metric tests stores actions (no_more 0) ∷ [])

abbrev dl : Span
dl = record { register = left; add = 0; back = 0 }

abbrev dr : Span
dr = record { register = right; add = 0; back = 0 }

abbrev placeless_rows : Metric → List Row
placeless_rows metric =
    ended (97 ∷ 98 ∷ []) 1 (98 ∷ []) (placeless metric (look (from_place 0) 97 ∷ look (from_place 1) 98 ∷ []) (store (from_place 1) ∷ [])
    (out_v 0 ∷ []))
    ∷
    ended (97 ∷ 98 ∷ []) 1 []
    (placeless metric (predicate_part (from_place 0) (from_end 0) lower true ∷ predicate_part (from_start 0) (from_place 0) digit true ∷ []) [] []) ∷
    stopped_with 18 (97 ∷ 98 ∷ []) 1 [] (placeless metric (look (from_place 2) 97 ∷ []) [] []) ∷
    stopped_with 18 (97 ∷ 98 ∷ []) 1 [] (placeless metric (predicate_part (from_start 0) (from_place 3) lower true ∷ []) [] []) ∷
    stopped_with 18 (97 ∷ 98 ∷ []) 1 [] (placeless metric [] (store (from_place 2) ∷ []) []) ∷
    ended (97 ∷ 98 ∷ []) 1 [] (placeless metric [] [] (select dl ∷ out ∷ [])) ∷
    ended (97 ∷ 98 ∷ []) 1 (97 ∷ 98 ∷ []) (placeless metric [] [] (select dr ∷ out ∷ [])) ∷ []

-- WHERE Q STAYS
-- 000's example 4.3.1, its first sentence (OutS as Select 1 and Out), and after it `e1 = e1`
abbrev path_sentence : List Action → Words
path_sentence actions =
    pack
    (sentence (ends 4 0) (look (from_start 0) 47 ∷ look (from_start 1) 46 ∷ look (from_start 2) 46 ∷ look (from_start 3) 47 ∷ []) [] actions
    (any_field (select (field 0) ∷ out ∷ [])) ∷ [])

-- function 1 selects, calls function 2 on that and writes what is selected then; function 2 has these actions
abbrev returning : Span → List Action → Words
returning selected callee = doing_both (select selected ∷ call 2 ∷ out ∷ []) callee

abbrev stay_rows : List Row
stay_rows =
    -- UseSeq: /../ab gives /ab
    ended_counting (47 ∷ 46 ∷ 46 ∷ 47 ∷ 97 ∷ 98 ∷ []) 2 (2 ∷ []) [] (47 ∷ 97 ∷ 98 ∷ [])
    (path_sentence (begin_seq ∷ select (cells_on 1) ∷ out ∷ go (cells_on 3) ∷ select (field 4) ∷ use_seq ∷ tail_call 1 ∷ [])) ∷
    -- Call: the callee leaves p where it was
    ended (97 ∷ 98 ∷ []) 2 (97 ∷ 98 ∷ []) (returning (field 0) []) ∷
    -- it puts a byte before p
    ended (97 ∷ 98 ∷ []) 2 (99 ∷ 97 ∷ 98 ∷ []) (returning (field 0) (begin_seq ∷ out_c 99 ∷ use_seq ∷ [])) ∷
    -- it moves p to q, and past it
    ended (97 ∷ 98 ∷ []) 2 [] (returning (field 0) (go (field 0) ∷ [])) ∷
    ended (97 ∷ 98 ∷ []) 2 [] (returning (cells_on 1) (go (cells_on 2) ∷ [])) ∷ []

-- WHERE NO SENTENCE FITS
abbrev recovery_rows : List Row
recovery_rows =
    -- a function that recovers and is not there, at once and where the allowance is spent as well
    wrong (1 ∷ 2 ∷ end_word 2 ∷ []) ∷
    wrong (1 ∷ 2 ∷ end_word 16777215 ∷ []) ∷
    stopped_with 18 (97 ∷ []) 5 []
    (5 ∷ 6 ∷ 7 ∷ 8 ∷ 9 ∷ 10 ∷ end_word 2 ∷ end_word 3 ∷ end_word 4 ∷ end_word 5 ∷ end_word 6 ∷ []) ∷
    -- a function that recovers itself has all five steps
    stopped_counting 12 (97 ∷ []) 5 (5 ∷ []) [] (1 ∷ 2 ∷ end_word 1 ∷ []) ∷
    -- one that recovers gets the field as it was
    ended (97 ∷ []) 2 (97 ∷ []) (pack (no_more 2 ∷ any_field (select (field 0) ∷ out ∷ []) ∷ [])) ∷ []

abbrev pub rows : List Row
rows =
    table_rows ++ match_rows ++ action_rows ++ doing_rows ++ angle_rows ++ spent_rows call ++ spent_rows tail_call
    ++ placeless_rows (exactly 2) ++ placeless_rows (ends 0 0) ++ stay_rows ++ recovery_rows

-- each is started at function 1
pub wild : map (λ (r : Row). leaving r.words 1 r.text lent allowance) rows ≡ map (λ (r : Row). r.leaves) rows
unfolding computing counting
wild = refl
