-- 01's number of each answer, and which numbers refuse a table.
use Rattle.std.specs.Prelude.{ℕ, Bool, eqb, ltb, Result, Ok, Err}
use Rattle.meaning.specs.Choice.{both, either}
use Rattle.meaning.specs.Answers as Answers
use Rattle.answers.specs.declared.Refusal.{Refusal}
use Rattle.answers.specs.declared.Refusal.TheVariants.{TableTooLong, MalformedToken, NotAllowedHere, OverLimit}
use Rattle.answers.specs.declared.Refusal.TheVariants.{WrongName, WrongPatternVariable, WrongLaterVariable}
use Rattle.answers.specs.declared.Refusal.TheVariants.{UndeclaredName, BufferTooShort, NotTailCall}
use Rattle.answers.specs.declared.Fault.{Fault}
use Rattle.answers.specs.declared.Ending.{Ending}
use Rattle.answers.specs.declared.Ending.TheVariants.{Finished, NoSuchStart, TextTooLong, NoSentenceFits}
use Rattle.answers.specs.declared.Ending.TheVariants.{AllowanceSpent, InFull, OutFull, FramesFull, RecordFull}
use Rattle.answers.specs.declared.Ending.TheVariants.{NoInstruction, ArgumentNotAngles, AngleOutOfRange}

-- 01 'Where each thing is checked'
abbrev pub refusal_number : Refusal → ℕ
refusal_number TableTooLong = Answers.table_too_long
refusal_number MalformedToken = Answers.malformed_token
refusal_number NotAllowedHere = Answers.not_allowed_here
refusal_number OverLimit = Answers.over_limit
refusal_number WrongName = Answers.wrong_name
refusal_number WrongPatternVariable = Answers.wrong_pattern_variable
refusal_number WrongLaterVariable = Answers.wrong_later_variable
refusal_number UndeclaredName = Answers.undeclared_name
refusal_number BufferTooShort = Answers.buffer_too_short
refusal_number NotTailCall = Answers.not_tail_call

-- what a check comes to: the number of what it refuses with, and 0 where nothing is wrong
abbrev pub fault_number : {A : Type 0} → Result A Fault → ℕ
fault_number (Ok value) = Answers.finished
fault_number (Err fault) = refusal_number fault.refusal

abbrev pub ending_number : Ending → ℕ
ending_number Finished = Answers.finished
ending_number NoSuchStart = Answers.no_such_start
ending_number TextTooLong = Answers.text_too_long
ending_number NoSentenceFits = Answers.no_sentence_fits
ending_number AllowanceSpent = Answers.allowance_spent
ending_number InFull = Answers.in_full
ending_number OutFull = Answers.out_full
ending_number FramesFull = Answers.frames_full
ending_number RecordFull = Answers.record_full
ending_number NoInstruction = Answers.no_instruction
ending_number ArgumentNotAngles = Answers.argument_not_angles
ending_number AngleOutOfRange = Answers.angle_out_of_range

-- 1 to 8 refuse a table, and 17 its code, where that is longer than what is lent for it
abbrev pub is_refusal : ℕ → Bool
is_refusal number =
    either (both (ltb 0 number) (ltb number Answers.no_such_start)) (eqb number Answers.buffer_too_short)
