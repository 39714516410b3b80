-- What a code word says, as a decoded instruction: the words of meaning's Packing read into the enums of decoding, and
-- what these mean.
use Rattle.std.specs.Prelude.{ℕ, ◌+◌, ◌/◌, ◌<◌, ◌≡◌, List, [], ◌∷◌, Bool, Option, Some, None, leb, eqb, length, get_or, take}
use Rattle.meaning.specs.Choice.{pick, both, every}
use Rattle.meaning.specs.Allowed.{is_byte}
use Rattle.meaning.specs.Instructions.{Span, Action, go, select, out, out_c, out_v, begin_seq, use_seq, call, tail_call}
use Rattle.meaning.specs.Instructions.{compute, unknown_action}
use Rattle.meaning.specs.Packing.{Words, number_in, first_in, second_in, third_in, actions_end, length_of, span_action}
use Rattle.meaning.specs.Packing.{emission_of, unpack_actions}
use Rattle.meaning.specs.Packing.{begin_seq_number, call_number, compute_number, emission_number, go_number}
use Rattle.meaning.specs.Packing.{out_c_number, out_number, out_v_number, plus_number, select_number, tail_call_number}
use Rattle.meaning.specs.Packing.{minus_number, use_seq_number}
use Rattle.code_numbers.specs.Numbers.{first}
use Rattle.code_numbers.specs.Operations.{operation_meant}
use Rattle.code_numbers.specs.declared.operations.Operation.TheVariants.{Plus, Minus}
use Rattle.code_numbers.specs.declared.words.CodeWord.{CodeWord}
use Rattle.run_code_places.specs.declared.CodePlace.{CodePlace}
use Rattle.run_decoding.specs.declared.CallKind.{CallKind}
use Rattle.run_decoding.specs.declared.CallKind.TheVariants.{Framed, Tail}
use Rattle.run_decoding.specs.declared.Call.{Call}
use Rattle.run_decoding.specs.declared.Write.{Write}
use Rattle.run_decoding.specs.declared.Write.TheVariants.{Out, OutC, OutV}
use Rattle.run_decoding.specs.declared.Instruction.{Instruction}
use Rattle.run_decoding.specs.declared.Instruction.TheVariants.{Go, Select, Write as Writes, BeginSeq, UseSeq}
use Rattle.run_decoding.specs.declared.Instruction.TheVariants.{Call as Calls, Emit, Compute, End, Unknown}

abbrev pub call_in : CallKind → ℕ → Call
call_in kind w = record { kind = kind; function = w / first }

abbrev pub computation_in : ℕ → Instruction
computation_in n = pick (eqb n plus_number) (Compute Plus) (pick (eqb n minus_number) (Compute Minus) Unknown)

abbrev pub instruction_in : ℕ → Instruction
instruction_in w =
    pick (eqb (number_in w) actions_end) End
    (pick (eqb (number_in w) emission_number) (Emit (first_in w))
    (pick (eqb (number_in w) go_number) (Go (record { 0 = w }))
    (pick (eqb (number_in w) select_number) (Select (record { 0 = w }))
    (pick (eqb (number_in w) out_number) (Writes Out)
    (pick (eqb (number_in w) out_c_number) (Writes (OutC (first_in w)))
    (pick (eqb (number_in w) out_v_number) (Writes (OutV (first_in w)))
    (pick (eqb (number_in w) begin_seq_number) BeginSeq
    (pick (eqb (number_in w) use_seq_number) UseSeq
    (pick (eqb (number_in w) call_number) (Calls (call_in Framed w))
    (pick (eqb (number_in w) tail_call_number) (Calls (call_in Tail w))
    (pick (eqb (number_in w) compute_number) (computation_in (first_in w))
    Unknown)))))))))))

-- the word at a place has a number
pub record Numbered (words : Words) (at n : ℕ) : Type 0 where
  pub within : at < length words
  pub number : number_in (get_or words at 0) ≡ n

-- it is found, and the place after it
pub record WordTaken (words : Words) (at n w : ℕ) (next : CodePlace) : Type 0 where
  pub numbered : Numbered words at n
  pub word : w ≡ get_or words at 0
  pub after : next ≡ record { 0 = at + 1 }

abbrev pub FindsWord : Words → ℕ → ℕ → Option (CodeWord × CodePlace) → Type 0
FindsWord words at n (Some found) = WordTaken words at n found.0.0 found.1
FindsWord words at n None = Numbered words at n → ⊥

-- WHAT AN INSTRUCTION MEANS

-- what moves p or q, by a span that the word holds
abbrev pub span_meant : (Span → Action) → ℕ → Action
span_meant f w = span_action f (length_of (first_in w)) (second_in w) (third_in w)

abbrev pub write_meant : Write → Action
write_meant Out = out
write_meant (OutC c) = out_c c
write_meant (OutV k) = out_v k

abbrev pub call_by : CallKind → ℕ → Action
call_by Framed number = call number
call_by Tail number = tail_call number

abbrev pub call_meant : Call → Action
call_meant c = call_by c.kind c.function

-- the actions from an instruction on, given the words after its first
abbrev pub actions_meant : Instruction → Words → List Action
actions_meant (Go w) ws = span_meant go w.0 ∷ unpack_actions 0 ws
actions_meant (Select w) ws = span_meant select w.0 ∷ unpack_actions 0 ws
actions_meant (Writes x) ws = write_meant x ∷ unpack_actions 0 ws
actions_meant BeginSeq ws = begin_seq ∷ unpack_actions 0 ws
actions_meant UseSeq ws = use_seq ∷ unpack_actions 0 ws
actions_meant (Calls x) ws = call_meant x ∷ unpack_actions 0 ws
actions_meant (Emit n) ws = emission_of n ws ∷ unpack_actions n ws
actions_meant (Compute operation) ws = compute (operation_meant operation) ∷ unpack_actions 0 ws
actions_meant End ws = []
actions_meant Unknown ws = unknown_action ∷ unpack_actions 0 ws

-- an emission's name: so many words are there and are bytes
abbrev pub is_name : ℕ → Words → Bool
is_name n ws = both (leb n (length ws)) (every is_byte (take n ws))
