-- 02, T-07: "No run may need more cells than under the earlier translation". The earlier code and the new differ only in how a tail call's last part
-- comes to its place, and there the new code asks for one need less; so what the earlier run never passes, the new one never passes either.
use Prim.Native.Nat.{ℕ, zero, suc, ◌+◌, ◌≤◌, ◌<◌}
use native.Mathlib.Omega.{arith}
use native.Mathlib.Nat.{zero-add}
use mathlib.Core.Path.{◌≡◌, refl, sym, ap, ◌∙◌}
use mathlib.Core.Bool.{Bool, true, false}
use mathlib.Core.List.{List, [], ◌∷◌, ◌++◌, map, append_assoc}
use mathlib.Core.Option.{Option, none, some, none-ne-some}
use lib.Dec.{T, leb, ltb}
use lib.ListN.{length, take, drop, length-append, length-drop, length-map, take-append-drop}
use lib.Seq.{take-append-le, drop-append-le, length-take-le}
use borrow.Author.Tests.{le-leb, leb-true, leb-false, lt-leb}
use Rattle.meaning.specs.Choice.{Bytes, Name, Named, both, guard, nth}
use Rattle.meaning.specs.Tree.{Expression, end, then_character, then_symbol, then_part, then_call, Sentence, Table}
use Rattle.meaning.specs.Angles.{Angled, sum, not_angles, out_of_range, angled}
use Rattle.meaning.specs.Names.{number_of, recoverer_of}
use Rattle.meaning.specs.Allowed.{allowed}
use Rattle.meaning.specs.Answers.{no_instruction}
use Rattle.meaning.specs.Outcome.{Tally, fresh, pay, emitted, emitted_line, done, stop, and_then, Result, result_of, computed}
use Rattle.meaning.specs.Instructions.{Site, Span, Action, go, select, out, out_c, out_v, begin_seq, use_seq, call, tail_call, emission}
use Rattle.meaning.specs.Instructions.{unknown_action}
use Rattle.meaning.specs.Instructions.{Metric, Test, Store, Sentences, no_more, sentence, Code, compute}
use Rattle.meaning.specs.Matching.{Found, found_at, found_none, found_wrong, find_place, choice_of, Choice, chosen, chosen_none, chosen_wrong}
use Rattle.meaning.specs.Matching.{choose_from}
use Rattle.meaning.specs.Matching.{stored_values}
use Rattle.meaning.specs.Machine.{Need, in_cells, out_cells, record_bytes, frames, onward, Watch, Ledger, Stacks, Local, Ran, Next, with_tally}
use Rattle.meaning.specs.Machine.{noting}
use Rattle.meaning.specs.Machine.{where_there, where_stored, where_opened, where_payable, max_opened, span_of, is_declared, moved_on, with_selected}
use Rattle.meaning.specs.Machine.{with_output, with_opened, sequence_moved, after_field, returned, writing, perform, process, started, ran_choice}
use Rattle.meaning.specs.Machine.{ran_paid}
use Rattle.meaning.specs.Machine.{enter, function_of, code_at}
use Rattle.meaning.specs.Runs.{Room, passes, Passed, first_passed, endless, watching, loaded, run_under, text_of, mark_of, passed_first}
use Rattle.meaning.specs.Translation.{Shape, shape_of, tested_shape, Stand, at_start, passage, rest_of, nowhere, Manner, emits, replaces, nests}
use Rattle.meaning.specs.Translation.{Level}
use Rattle.meaning.specs.Translation.{outermost, in_argument, in_tail, is_end, manner_of, level_in, ends_pattern, left_for, where_left}
use Rattle.meaning.specs.Translation.{argument_ready}
use Rattle.meaning.specs.Translation.{calling, item_actions, translated_sentences, translated_function, translate, computes}
use Rattle.meaning.specs.Earlier.{earlier_items, earlier_sentences, earlier_function, earlier_translation}
use Rattle.meaning_agreeing.proofs.Laws.Known.{rewrite-known}
use Rattle.meaning_agreeing.proofs.Laws.Room.{read_for, seen_endless, watched-endless}
use Rattle.meaning_agreeing.proofs.Agreement.Carrying.{span-opened}
use Rattle.meaning_agreeing.proofs.Agreement.Expressions.{rest-nowhere}
use Rattle.meaning_agreeing.proofs.Agreement.Agree.{agree-result}

-- TWO CODES THAT ARE ALIKE

-- the same actions, but for the end of a tail call whose argument's last part stays on in
pub data Alike : List Action → List Action → Type 0 where
  nothing : Alike [] []
  same : {xs ys : List Action} (a : Action) → Alike xs ys → Alike (a ∷ xs) (a ∷ ys)
  left : (gap piece : Span) (f : ℕ) →
      Alike (go gap ∷ select piece ∷ out ∷ go nowhere ∷ use_seq ∷ select nowhere ∷ tail_call f ∷ [])
      (go gap ∷ use_seq ∷ select piece ∷ tail_call f ∷ [])

-- the same sentences but for their actions, which are alike
pub data AlikeSentences : Sentences → Sentences → Type 0 where
  none_left : {r : ℕ} → AlikeSentences (no_more r) (no_more r)
  one_more : {metric : Metric} {tests : List Test} {stores : List Store} {xs ys : List Action} {more₀ more : Sentences} → Alike xs ys →
      AlikeSentences more₀ more →
      AlikeSentences (sentence metric tests stores xs more₀) (sentence metric tests stores ys more)

-- r at each open sequence lies between where the application began and where out stands
pub data Chain (base : ℕ) : ℕ → List ℕ → Type 0 where
  bottom : {n : ℕ} → base ≤ n → Chain base n []
  above : {n r : ℕ} {rs : List ℕ} → r ≤ n → Chain base r rs → Chain base n (r ∷ rs)

chain-base : {base n : ℕ} {rs : List ℕ} → Chain base n rs → base ≤ n
chain-base (bottom h) = h
chain-base (above h c) = let below = chain-base c in omega arith

chain-up : {base n m : ℕ} {rs : List ℕ} → n ≤ m → Chain base n rs → Chain base m rs
chain-up {base} {n} {m} h (bottom b) = let higher : base ≤ m = omega arith in bottom higher
chain-up {base} {n} {m} h (above {r = r} low c) = let higher : r ≤ m = omega arith in above higher c

zero-fits : (n : ℕ) → leb 0 n ≡ true
zero-fits n = le-leb 0 n (omega arith)

module _ (A : Type 0) (step : Need → Tally → A → A) (Under : A → A → Type 0)
    (alike-step : (need : Need) (t : Tally) (m₀ m : A) → Under m₀ m → Under (step need t m₀) (step need t m))
    (one_more_lem : (need : Need) (t : Tally) (m₀ m : A) → Under m₀ m → Under (step need t m₀) m) where
  abbrev W : Watch
  W = record { Mark = A; note = λ need t m. onward (step need t m) }

  abbrev at : Tally → A → Ledger A
  at t m = record { tally = t; mark = m }

  -- the same outcome, out no shorter than it was, and the second mark under the first; of words that are no instruction nothing is said
  data Lighter (n : ℕ) : Ran W → Ran W → Type 0 where
    both_done : {s : Stacks} {t : Tally} {m₀ m : A} → n ≤ length s.output → Under m₀ m → Lighter n (done s (at t m₀)) (done s (at t m))
    both_stop : {answer function : ℕ} {t : Tally} {m₀ m : A} → Under m₀ m → Lighter n (stop answer function (at t m₀)) (stop answer function (at t m))
    both_wrong : {g₀ g : Ledger A} → Lighter n (stop no_instruction 0 g₀) (stop no_instruction 0 g)

  abbrev Computation : Type 0
  Computation = Ledger A → Ran W

  record Less (n : ℕ) (k₀ k : Computation) : Type 0 where
    each : (t : Tally) (m₀ m : A) → Under m₀ m → Lighter n (k₀ (at t m₀)) (k (at t m))

  lower : {n n' : ℕ} {o₀ o : Ran W} → n' ≤ n → Lighter n o₀ o → Lighter n' o₀ o
  lower {n} {n'} h (both_done {s} p u) = let fewer : n' ≤ length s.output = omega arith in both_done fewer u
  lower h (both_stop u) = both_stop u
  lower h both_wrong = both_wrong

  wrong : (n : ℕ) → Less n (stop no_instruction 0) (stop no_instruction 0)
  wrong n = record { each = λ t m₀ m u. both_wrong }

  there : (n : ℕ) (b : Bool) (k₀ k : Computation) → Less n k₀ k → Less n (λ g. where_there W b g (k₀ g)) (λ g. where_there W b g (k g))
  there n true k₀ k r = r
  there n false k₀ k r = wrong n

  both-there : (n : ℕ) (b₀ b : Bool) (k₀ k : Computation) → b₀ ≡ b → Less n k₀ k →
      Less n (λ g. where_there W b₀ g (k₀ g)) (λ g. where_there W b g (k g))
  both-there n b₀ b k₀ k e r = rw e (there n b k₀ k r)

  noted : (n : ℕ) (need : Tally → Need) (k₀ k : Computation) → Less n k₀ k →
      Less n (λ g. noting W (need g.tally) g k₀) (λ g. noting W (need g.tally) g k)
  noted n need k₀ k r = record { each = λ t m₀ m u. r.each t (step (need t) t m₀) (step (need t) t m) (alike-step (need t) t m₀ m u) }

  affords : (n f : ℕ) (k₀ k : Computation) → Less n k₀ k →
      Less n (λ g. where_payable W (pay f g.tally) g (k₀ g)) (λ g. where_payable W (pay f g.tally) g (k g))
  affords n f k₀ k r = record { each = λ t m₀ m u. paid t m₀ m u (pay f t) }
    where
      paid : (t : Tally) (m₀ m : A) → Under m₀ m → (o : Option Tally) →
          Lighter n (where_payable W o (at t m₀) (k₀ (at t m₀))) (where_payable W o (at t m) (k (at t m)))
      paid t m₀ m u none = both_stop u
      paid t m₀ m u (some p) = r.each t m₀ m u

  works_out : (n : ℕ) (a : Angled) (k₀ k : Bytes → Computation) → ((text : Bytes) → Less n (k₀ text) (k text)) →
      Less n (λ g. and_then (computed a g) k₀) (λ g. and_then (computed a g) k)
  works_out n (sum text) k₀ k r = r text
  works_out n not_angles k₀ k r = record { each = λ t m₀ m u. both_stop u }
  works_out n out_of_range k₀ k r = record { each = λ t m₀ m u. both_stop u }

  -- after a call out is no shorter
  chained : (n n' : ℕ) (first₀ first : Computation) (k₀ k : Stacks → Computation) → Less n first₀ first →
      ((s : Stacks) → n ≤ length s.output → Less n' (k₀ s) (k s)) →
      Less n' (λ g. and_then (first₀ g) k₀) (λ g. and_then (first g) k)
  chained n n' first₀ first k₀ k r later = record { each = λ t m₀ m u. after (r.each t m₀ m u) }
    where
      after : {o₀ o : Ran W} → Lighter n o₀ o → Lighter n' (and_then o₀ k₀) (and_then o k)
      after (both_done {s} {t} {m₀} {m} p u) = (later s p).each t m₀ m u
      after (both_stop u) = both_stop u
      after both_wrong = both_wrong

  lowered : {n n' : ℕ} {k₀ k : Computation} → n' ≤ n → Less n k₀ k → Less n' k₀ k
  lowered h r = record { each = λ t m₀ m u. lower h (r.each t m₀ m u) }

  module _ (code₀ code : Code) (size : length code₀ ≡ length code) (e₀ e : ℕ → ℕ → Stacks → Computation)
      (entering : (frame f : ℕ) (s : Stacks) → Less (length s.output) (e₀ frame f s) (e frame f s)) (base frame : ℕ) where
    abbrev Goes : Next W → Next W → Type 0
    Goes next₀ next = (l : Local) (s : Stacks) → Chain base (length s.output) l.opened → Less base (next₀ l s) (next l s)

    declared : (f : ℕ) → is_declared code₀ f ≡ is_declared code f
    declared f = rw size

    longer : (o more : Bytes) {rs : List ℕ} → Chain base (length o) rs → Chain base (length (o ++ more)) rs
    longer o more c = let more-cells : length o ≤ length (o ++ more) = rw length-append (omega arith) in chain-up more-cells c

    performs : (next₀ next : Next W) → Goes next₀ next → (a : Action) → Goes (perform W code₀ e₀ next₀ frame a) (perform W code e next frame a)
    performs next₀ next r (go a) l s c = there base (leb (span_of a l) (length s.input)) _ _ (r l (moved_on (span_of a l) s) c)
    performs next₀ next r (select a) l s c =
        there base (leb (s.selected + span_of a l) (length s.input)) _ _ (r l (with_selected (s.selected + span_of a l) s) c)
    performs next₀ next r out l s c =
        noted base (λ t. out_cells (length s.output + s.selected)) _ _
        (r l (moved_on s.selected (with_output (s.output ++ take s.selected s.input) s))
        (longer s.output (take s.selected s.input) c))
    performs next₀ next r (out_c b) l s c =
        noted base (λ t. out_cells (suc (length s.output))) _ _ (r l (with_output (s.output ++ b ∷ []) s) (longer s.output (b ∷ []) c))
    performs next₀ next r (out_v k) l s c = stored (nth k l.values)
      where
        stored : (o : Option ℕ) → Less base (λ g. where_stored W o g (λ b. writing W b s g (next₀ l)))
            (λ g. where_stored W o g (λ b. writing W b s g (next l)))
        stored none = wrong base
        stored (some b) =
            noted base (λ t. out_cells (suc (length s.output))) _ _ (r l (with_output (s.output ++ b ∷ []) s) (longer s.output (b ∷ []) c))
    performs next₀ next r begin_seq l s c =
        there base (ltb (length l.opened) max_opened) _ _ (r (with_opened (length s.output ∷ l.opened) l) s (above (omega arith) c))
    performs next₀ next r use_seq l s c = opened l.opened c
      where
        opened : (rs : List ℕ) → Chain base (length s.output) rs →
            Less base (λ g. where_opened W rs g (λ x rs. noting W (in_cells (length (drop x s.output) + length s.input)) g
            (next₀ (with_opened rs l) (sequence_moved x s))))
            (λ g. where_opened W rs g (λ x rs. noting W (in_cells (length (drop x s.output) + length s.input)) g
            (next (with_opened rs l) (sequence_moved x s))))
        opened [] c = wrong base
        opened (x ∷ rs) (above h c) =
            noted base (λ t. in_cells (length (drop x s.output) + length s.input)) _ _
            (r (with_opened rs l) (sequence_moved x s) (rw (length-take-le x s.output h) c))
    performs next₀ next r (call f) l s c =
        both-there base (is_declared code₀ f) (is_declared code f) _ _ (declared f)
        (affords base f _ _
        (noted base (λ t. frames (suc frame)) _ _
        (chained (length s.output) base (e₀ (suc frame) f s) (e (suc frame) f s) (λ s₁ g. next₀ l (returned (after_field s) s₁) g)
        (λ s₁ g. next l (returned (after_field s) s₁) g)
        (entering (suc frame) f s) (λ s₁ h. r l (returned (after_field s) s₁) (chain-up h c)))))
    performs next₀ next r (tail_call f) l s c =
        both-there base (is_declared code₀ f) (is_declared code f) _ _ (declared f) (lowered (chain-base c) (entering frame f s))
    performs next₀ next r (emission n) l s c =
        noted base (λ t. record_bytes (length t.emissions + length (emitted_line n (take s.selected s.input))))
        (λ g. next₀ l (moved_on s.selected s) (with_tally W (emitted n (take s.selected s.input) g.tally) g))
        (λ g. next l (moved_on s.selected s) (with_tally W (emitted n (take s.selected s.input) g.tally) g))
        (record { each = λ t m₀ m u. (r l (moved_on s.selected s) c).each (emitted n (take s.selected s.input) t) m₀ m u })
    performs next₀ next r (compute op) l s c =
        works_out base (angled op (take s.selected s.input)) _ _
        (λ text. noted base (λ t. out_cells (length s.output + length text)) _ _
        (r l (moved_on s.selected (with_output (s.output ++ text) s)) (longer s.output text c)))
    performs next₀ next r unknown_action l s c = wrong base

    -- THE END OF A TAIL CALL WHOSE LAST PART STAYS

    abbrev on : Bytes → ℕ → Bytes → Stacks
    on input selected output = record { input = input; selected = selected; output = output }

    -- the part moved to out and back, or left: both come to the same stacks
    closes : (piece : Span) (f : ℕ) (l : Local) (r : ℕ) (rs : List ℕ) (i o : Bytes) (p : ℕ) → l.opened ≡ r ∷ rs → r ≤ length o → p ≤ length i →
        span_of piece l ≡ p → Chain base r rs →
        Less base (process W code₀ e₀ frame (go nowhere ∷ use_seq ∷ select nowhere ∷ tail_call f ∷ []) l (on (drop p i) 0 (o ++ take p i)))
        (process W code e frame (use_seq ∷ select piece ∷ tail_call f ∷ []) l (on i 0 o))
    unfolding process
    closes piece f l r rs i o p opened low short size-p chain =
        let total : length (drop r o ++ take p i) + length (drop p i) ≡ length (drop r o) + length i =
        rw (length-append (drop r o) (take p i), length-take-le p i short, length-drop p i) (omega arith) in
        let none-selected : 0 + length (drop r o) ≡ length (drop r o) = omega arith in
        let chosen : 0 + length (drop r o ++ take p i) + 0 ≡ length (drop r o) + p =
        rw (length-append (drop r o) (take p i), length-take-le p i short) (omega arith)
        in
        let whole : length (drop r o) + p ≤ length (drop r o ++ i) = rw (length-append (drop r o) i) (omega arith) in
        let fits : leb (length (drop r o) + p) (length (drop r o ++ i)) ≡ true = le-leb _ _ whole in
        record {
          each = λ t m₀ m u.
              rw (
                zero-fits,
                opened,
                drop-append-le r o (take p i) low,
                take-append-le r o (take p i) low,
                append_assoc (drop r o) (take p i) (drop p i),
                take-append-drop p i,
                total,
                chosen,
                none-selected,
                span-opened piece l rs,
                size-p,
                fits,
              )
              ((noted base (λ t. in_cells (length (drop r o) + length i))
              (λ g. where_there W (is_declared code₀ f) g (e₀ frame f after g)) (λ g. where_there W (is_declared code f) g (e frame f after g))
              (both-there base (is_declared code₀ f) (is_declared code f) _ _ (declared f)
              (lowered (rw (length-take-le r o low) (chain-base chain)) (entering frame f after)))).each t m₀ m u);
        }
      where
        after : Stacks
        after = on (drop r o ++ i) (length (drop r o) + p) (take r o)

    stays : (gap piece : Span) (f : ℕ) → Goes
        (process W code₀ e₀ frame (go gap ∷ select piece ∷ out ∷ go nowhere ∷ use_seq ∷ select nowhere ∷ tail_call f ∷ []))
        (process W code e frame (go gap ∷ use_seq ∷ select piece ∷ tail_call f ∷ []))
    unfolding process
    stays gap piece f l s c =
        there base (leb (span_of gap l) (length s.input)) _ _
        (ends (drop (span_of gap l) s.input) l.opened refl c (leb (span_of piece l) (length (drop (span_of gap l) s.input))) refl)
      where
        ends : (i : Bytes) (rs : List ℕ) → l.opened ≡ rs → Chain base (length s.output) rs → (q : Bool) → leb (span_of piece l) (length i) ≡ q →
            Less base (process W code₀ e₀ frame (select piece ∷ out ∷ go nowhere ∷ use_seq ∷ select nowhere ∷ tail_call f ∷ []) l
            (on i 0 s.output))
            (process W code e frame (use_seq ∷ select piece ∷ tail_call f ∷ []) l (on i 0 s.output))
        ends i [] opened c true fits = record { each = λ t m₀ m u. rw (zero-add, fits, zero-fits, opened) both_wrong }
        ends i [] opened c false fits = record { each = λ t m₀ m u. rw (zero-add, fits, opened) both_wrong }
        ends i (r ∷ rs) opened c false fits =
            let long : length i < span_of piece l = leb-false (span_of piece l) (length i) fits in
            let longer : length (drop r s.output ++ i) < length (drop r s.output) + span_of piece l = rw length-append (omega arith) in
            let none-selected : 0 + length (drop r s.output) ≡ length (drop r s.output) = omega arith in
            let unfit : leb (length (drop r s.output) + span_of piece l) (length (drop r s.output ++ i)) ≡ false = lt-leb _ _ longer in
            record { each = λ t m₀ m u. rw (zero-add, fits, opened, none-selected, span-opened piece l rs, unfit) both_wrong }
        ends i (r ∷ rs) opened (above low c) true fits =
            record {
              each = λ t m₀ m u.
                  rw (zero-add, fits)
                  ((closes piece f l r rs i s.output (span_of piece l) opened low (leb-true (span_of piece l) (length i) fits) refl c).each t _ m
                  (one_more_lem (out_cells (length s.output + span_of piece l)) t m₀ m u));
            }

    processes : {xs ys : List Action} → Alike xs ys → Goes (process W code₀ e₀ frame xs) (process W code e frame ys)
    unfolding process
    processes nothing = λ l s c. record { each = λ t m₀ m u. both_done (chain-base c) u }
    processes (same {xs} {ys} a more) = performs (process W code₀ e₀ frame xs) (process W code e frame ys) (processes more) a
    processes (left gap piece f) = stays gap piece f

  -- SENTENCES AND FUNCTIONS

  -- so the same sentence is chosen
  data AlikeChoice : Choice → Choice → Type 0 where
    neither : (r : ℕ) → AlikeChoice (chosen_none r) (chosen_none r)
    unknown : AlikeChoice chosen_wrong chosen_wrong
    alike : {at : ℕ} {stores : List Store} {xs ys : List Action} → Alike xs ys →
        AlikeChoice (chosen at stores xs) (chosen at stores ys)

  chooses : {more₀ more : Sentences} (field : Bytes) → AlikeSentences more₀ more →
      AlikeChoice (choose_from more₀ field) (choose_from more field)
  unfolding choose_from
  chooses field (none_left {r}) = neither r
  chooses field (one_more {metric} {tests} {stores} {xs} {ys} {more₀} {more} a later) =
      by (find_place metric tests field) (chooses field later)
    where
      by : (found : Found) → AlikeChoice (choose_from more₀ field) (choose_from more field) →
          AlikeChoice (choice_of found stores xs (choose_from more₀ field))
          (choice_of found stores ys (choose_from more field))
      by (found_at at) c = alike a
      by found_none c = c
      by found_wrong c = unknown

  module _ (code₀ code : Code) (size : length code₀ ≡ length code) (e₀ e : ℕ → ℕ → Stacks → Computation)
      (entering : (frame f : ℕ) (s : Stacks) → Less (length s.output) (e₀ frame f s) (e frame f s)) (frame f : ℕ) (s : Stacks) where
    begins : {xs ys : List Action} → Alike xs ys → (at : ℕ) (values : Option Bytes) →
        Less (length s.output) (started W code₀ e₀ frame xs at values s) (started W code e frame ys at values s)
    begins a at none = wrong (length s.output)
    begins a at (some values) = processes code₀ code size e₀ e entering (length s.output) frame a _ _ (bottom (omega arith))

    runs : {c₀ c : Choice} → AlikeChoice c₀ c → Less (length s.output) (ran_choice W code₀ e₀ frame f c₀ s) (ran_choice W code e frame f c s)
    runs (neither zero) = record { each = λ t m₀ m u. both_stop u }
    runs (neither (suc r)) =
        both-there (length s.output) (is_declared code₀ (suc r)) (is_declared code (suc r)) _ _ (rw size) (entering frame (suc r) s)
    runs unknown = wrong (length s.output)
    runs (alike {at = at} {stores = stores} a) = begins a at (stored_values stores (take s.selected s.input) at)

    pays : AlikeSentences (code_at code₀ f) (code_at code f) → (t : Tally) (m₀ m : A) → Under m₀ m → (o : Option Tally) →
        Lighter (length s.output) (ran_paid W code₀ e₀ frame f s (at t m₀) o) (ran_paid W code e frame f s (at t m) o)
    pays fs t m₀ m u none = both_stop u
    pays fs t m₀ m u (some t₁) = (runs (chooses (take s.selected s.input) fs)).each t₁ m₀ m u

  module _ (code₀ code : Code) (size : length code₀ ≡ length code) (functions : (f : ℕ) → AlikeSentences (code_at code₀ f) (code_at code f)) where
    applies : (depth frame f : ℕ) (s : Stacks) → Less (length s.output) (enter W depth code₀ frame f s) (enter W depth code frame f s)
    unfolding enter
    applies zero frame f s = record { each = λ t m₀ m u. both_stop u }
    applies (suc depth) frame f s =
        record {
          each = λ t m₀ m u. pays code₀ code size (enter W depth code₀) (enter W depth code) (applies depth) frame f s (functions f) t m₀ m u
              (pay f t);
        }

-- THE TWO TRANSLATIONS

module _ (table : Table) (shape : Shape) (sites : List (Named Site)) where
  -- an expression's level under the earlier translation and now; the argument of a tail call is followed by the call
  data Levels : Level → Level → (Stand → List Action) → Type 0 where
    whole : {k : Stand → List Action} → Levels outermost outermost k
    within : {k : Stand → List Action} → Levels in_argument in_argument k
    tail : {k : Stand → List Action} (f : ℕ) → ((w : Stand) → k w ≡ go (rest_of shape w) ∷ argument_ready (tail_call f ∷ [])) →
        Levels in_argument (in_tail f) k

  same-ready : {xs ys : List Action} → Alike xs ys → Alike (argument_ready xs) (argument_ready ys)
  same-ready a = same use_seq (same (select nowhere) a)

  same-call : (m : Manner) (number : ℕ) (n : Name) (w : Stand) {xs ys : List Action} → Alike xs ys →
      Alike (calling shape m number n w xs) (calling shape m number n w ys)
  same-call emits number n w a = same-ready (same (emission n) a)
  same-call (computes op) number n w a = same-ready (same (compute op) a)
  same-call replaces number n w a = same (go (rest_of shape w)) (same-ready (same (tail_call number) nothing))
  same-call nests number n w a = same-ready (same (call number) a)

  argument-level : (m : Manner) (number : ℕ) (n : Name) (more : Stand → List Action) →
      Levels in_argument (level_in m number) (λ w. calling shape m number n w (more w))
  argument-level emits number n more = within
  argument-level (computes op) number n more = within
  argument-level replaces number n more = tail number (λ w. refl)
  argument-level nests number n more = within

  alike-part : {level₀ level : Level} {k : Stand → List Action} → Levels level₀ level k → (x : Name) (w : Stand) (e : Expression) {ys : List Action} →
      Alike (earlier_items table shape sites level₀ e (passage shape x w).after k) ys →
      Alike (go (passage shape x w).gap ∷ select (passage shape x w).piece ∷ out ∷
      earlier_items table shape sites level₀ e (passage shape x w).after k)
      (where_left (left_for shape level x e) (passage shape x w) (go (passage shape x w).gap ∷ select (passage shape x w).piece ∷ out ∷ ys))
  unfolding earlier_items
  alike-part whole x w e a = same _ (same _ (same out a))
  alike-part within x w e a = same _ (same _ (same out a))
  alike-part {k} (tail f follows) x w e {ys} a = by (ends_pattern shape x) e refl a
    where
      by : (q : Bool) (e : Expression) → ends_pattern shape x ≡ q →
          Alike (earlier_items table shape sites in_argument e (passage shape x w).after k) ys →
          Alike (go (passage shape x w).gap ∷ select (passage shape x w).piece ∷ out ∷
          earlier_items table shape sites in_argument e (passage shape x w).after k)
          (where_left (guard (both (is_end e) q) (some f)) (passage shape x w)
          (go (passage shape x w).gap ∷ select (passage shape x w).piece ∷ out ∷ ys))
      by true end ends a =
          rw (follows (passage shape x w).after, rest-nowhere shape x w (rw ends tt)) (left (passage shape x w).gap (passage shape x w).piece f)
      by false end ends a = same _ (same _ (same out a))
      by q (then_character c e) ends a = same _ (same _ (same out a))
      by q (then_symbol y e) ends a = same _ (same _ (same out a))
      by q (then_part y e) ends a = same _ (same _ (same out a))
      by q (then_call place n b e) ends a = same _ (same _ (same out a))

  same-manner : {level₀ level : Level} {k : Stand → List Action} → Levels level₀ level k → (e : Expression) (n : Name) →
      manner_of level₀ e n ≡ manner_of level e n
  same-manner whole e n = refl
  same-manner within e n = refl
  same-manner (tail f follows) e n = refl

  alike-items : {level₀ level : Level} {k₀ k : Stand → List Action} → Levels level₀ level k₀ → (e : Expression) (w : Stand) →
      ((w : Stand) → Alike (k₀ w) (k w)) →
      Alike (earlier_items table shape sites level₀ e w k₀) (item_actions table shape sites level e w k)
  unfolding earlier_items item_actions
  alike-items v end w a = a w
  alike-items v (then_character c e) w a = same (out_c c) (alike-items v e w a)
  alike-items v (then_symbol x e) w a = same _ (alike-items v e w a)
  alike-items v (then_part x e) w a = alike-part v x w e (alike-items v e (passage shape x w).after a)
  alike-items {level₀ = level₀} {level = level} {k₀ = k₀} {k = k} v (then_call place n b e) w a =
      rw (same-manner v e n)
      (same begin_seq
      (alike-items {level₀ = in_argument} {level = level_in (manner_of level e n) (number_of table n)}
      (argument-level (manner_of level e n) (number_of table n) n (λ w₁. earlier_items table shape sites level₀ e w₁ k₀)) b w
      (λ w₁. same-call (manner_of level e n) (number_of table n) n w₁ (alike-items v e w₁ a))))

alike-sentences : (table : Table) (r : ℕ) (ss : List Sentence) → AlikeSentences (earlier_sentences table r ss) (translated_sentences table r ss)
unfolding earlier_sentences translated_sentences
alike-sentences table r [] = none_left
alike-sentences table r (s ∷ ss) =
    one_more (alike-items table (shape_of s.pattern) (tested_shape (shape_of s.pattern)).sites whole s.expression at_start
    (λ w. same (go (rest_of (shape_of s.pattern) w)) nothing)) (alike-sentences table r ss)

alike-functions : (table : Table) (f : ℕ) → AlikeSentences (code_at (earlier_translation table) f) (code_at (translate table) f)
unfolding nth
alike-functions table zero = none_left
alike-functions table (suc i) = there table i
  where
    there : (fs : Table) (i : ℕ) →
        AlikeSentences (function_of (nth i (map (earlier_function table) fs))) (function_of (nth i (map (translated_function table) fs)))
    there [] i = none_left
    there (f ∷ fs) zero = alike-sentences table (recoverer_of table f.name) f.sentences
    there (f ∷ fs) (suc i) = there fs i

-- WHAT IS PASSED

abbrev Unpassed : Option Passed → Option Passed → Type 0
Unpassed m₀ m = m₀ ≡ none → m ≡ none

module _ (room : Room) where
  abbrev notes : Need → Tally → Option Passed → Option Passed
  notes need t m = first_passed m need t (passes room need)

  first_alike : (b : Bool) (need : Need) (t : Tally) (m₀ m : Option Passed) → Unpassed m₀ m →
      Unpassed (first_passed m₀ need t b) (first_passed m need t b)
  first_alike b need t (some p) m u h = absurd (none-ne-some p (sym h))
  first_alike true need t none m u h = absurd (none-ne-some _ (sym h))
  first_alike false need t none m u h = rw (u refl)

  first_more : (b : Bool) (need : Need) (t : Tally) (m₀ m : Option Passed) → Unpassed m₀ m → Unpassed (first_passed m₀ need t b) m
  first_more b need t (some p) m u h = absurd (none-ne-some p (sym h))
  first_more true need t none m u h = absurd (none-ne-some _ (sym h))
  first_more false need t none m u h = u refl

  module _ (table : Table) (ok : T (allowed table)) (start : ℕ) (text : Bytes) (allowance : ℕ) where
    -- the new code is known: rewriting never answers 18
    told : (o : Ran (watching room)) → result_of (text_of (read_for endless seen_endless o)) ≡ result_of (text_of o)
    told (done s g) = refl
    told (stop answer function g) = refl

    known : (result_of (text_of (run_under (watching room) (translate table) start text allowance none))).answer ≡ no_instruction → ⊥
    known h =
        rewrite-known table start text allowance
        (sym (ap (λ (r : Result). r.answer)
        (sym (told (run_under (watching room) (translate table) start text allowance none)) ∙
        ap (λ o. result_of (text_of o)) (watched-endless room (translate table) start text allowance) ∙
        agree-result table ok start text allowance)) ∙ h)

    unmarked : {o₀ o : Ran (watching room)} →
        Lighter (Option Passed) notes Unpassed (λ need t m₀ m. first_alike (passes room need) need t m₀ m)
        (λ need t m₀ m. first_more (passes room need) need t m₀ m) 0 o₀ o →
        ((result_of (text_of o)).answer ≡ no_instruction → ⊥) → mark_of o₀ ≡ none → mark_of o ≡ none
    unmarked (both_done p u) k h = u h
    unmarked (both_stop u) k h = u h
    unmarked both_wrong k h = absurd (k refl)

    -- what a run of the earlier code keeps within, a run of the new code keeps within
    pub no-more-cells : passed_first room (earlier_translation table) start text allowance ≡ none →
        passed_first room (translate table) start text allowance ≡ none
    no-more-cells =
        unmarked
        ((applies (Option Passed) notes Unpassed (λ need t m₀ m. first_alike (passes room need) need t m₀ m)
        (λ need t m₀ m. first_more (passes room need) need t m₀ m)
        (earlier_translation table) (translate table) (length-map table (earlier_function table) ∙ sym (length-map table (translated_function table)))
        (alike-functions table) allowance 1 start (loaded text)).each (fresh allowance) none none (λ e. e))
        known
