-- The numbers of 01's table 'Where each thing is checked', and those that 02 adds.
use Rattle.std.specs.Prelude.{ℕ}

-- 0 means done
abbrev pub finished : ℕ
finished = 0

-- before reading
abbrev pub table_too_long : ℕ
table_too_long = 1

-- at a token
abbrev pub malformed_token : ℕ
malformed_token = 2

abbrev pub not_allowed_here : ℕ
not_allowed_here = 3

abbrev pub over_limit : ℕ
over_limit = 4

-- at a name
abbrev pub wrong_name : ℕ
wrong_name = 5

-- at a pattern variable
abbrev pub wrong_pattern_variable : ℕ
wrong_pattern_variable = 6

-- at a later variable
abbrev pub wrong_later_variable : ℕ
wrong_later_variable = 7

-- after reading
abbrev pub undeclared_name : ℕ
undeclared_name = 8

-- before a run
abbrev pub no_such_start : ℕ
no_such_start = 9

abbrev pub text_too_long : ℕ
text_too_long = 10

-- at an application
abbrev pub no_sentence_fits : ℕ
no_sentence_fits = 11

abbrev pub allowance_spent : ℕ
allowance_spent = 12

-- at UseSeq
abbrev pub in_full : ℕ
in_full = 13

-- at a write to out
abbrev pub out_full : ℕ
out_full = 14

-- at a Call
abbrev pub frames_full : ℕ
frames_full = 15

-- at an emission
abbrev pub record_full : ℕ
record_full = 16

-- writing code or listing
abbrev pub buffer_too_short : ℕ
buffer_too_short = 17

-- at decoding
abbrev pub no_instruction : ℕ
no_instruction = 18

-- asking whether a table is flat: 02, T-06
abbrev pub not_tail_call : ℕ
not_tail_call = 19

-- "when the call is done and before 14": 02, T-08
abbrev pub argument_not_angles : ℕ
argument_not_angles = 20

abbrev pub angle_out_of_range : ℕ
angle_out_of_range = 21
