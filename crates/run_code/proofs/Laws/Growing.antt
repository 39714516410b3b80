-- The room for all frames, which begins as the one lent: a run goes on there as it would have gone on.
use Prim.Native.Nat.{ℕ, suc, ◌+◌, ◌*◌, ◌≤◌}
use native.Mathlib.Omega.{arith}
use mathlib.Core.Path.{◌≡◌, refl, sym, ap, subst, ◌∙◌}
use mathlib.Core.Bool.{Bool, true, false}
use mathlib.Core.List.{List, ◌++◌}
use lib.Dec.{T, ltb}
use lib.ListN.{length, take, drop, length-drop}
use lib.Seq.{paste, take-paste, take-append-le, drop-append-le, take-take, take-length, take_at, length-take-le}
use borrow.Author.Tests.{ltb-true}
use Rattle.meaning.specs.Choice.{Bytes, both}
use Rattle.meaning.specs.Outcome.{max_counted}
use Rattle.meaning.specs.Packing.{Words}
use Rattle.meaning.specs.Leaving.{max_frames}
use Rattle.run_actions.specs.declared.registers.Registers.{Registers}
use Rattle.run_actions.specs.declared.registers.Next.{Next}
use Rattle.run_actions.specs.declared.registers.Next.TheVariants.{Onward, Done, Stopped, Deeper}
use Rattle.run_actions.specs.States.{Memory, memory, words_for, values_for, words_below, counts_in, memory_room}
use Rattle.run_applications.specs.Waiting.{outcome_from}
use Rattle.run_applications.specs.Simulation.{Invariant, NextInvariant, registers_in}
use Rattle.run_turns.specs.Turns.{IsOver}
use Rattle.run_code.specs.Following.{SimulatesUntil, HasEnded}
use Rattle.run_applications.proofs.Laws.Simulation.{simulates-on}
use Rattle.run_applications.proofs.Laws.Waiting.{held_same, waits-same, local_same, waiting-same}

-- WHERE ALL FRAMES ARE THERE

not-all : (k : ℕ) (b : Bool) (frames : List ℕ) → length frames ≡ words_for max_frames → ltb (suc k) max_frames ≡ b →
    both b (ltb (length frames) (words_for (suc (suc k)))) ≡ true → ⊥
not-all k true frames sized few e = omega (arith, sized, ltb-true (suc k) max_frames few, ltb-true (length frames) (words_for (suc (suc k))) e)
not-all k false frames sized few e = absurd (subst T (sym e) tt)

-- a run that doesn't go on has ended
pub has_ended : (allowance : ℕ) (last : Next) (n : Memory) → length n.frames ≡ words_for max_frames → IsOver last → NextInvariant allowance last n
    → HasEnded last
has_ended allowance (Onward g) n sized over invariant = absurd over
has_ended allowance (Done g) n sized over invariant = tt
has_ended allowance (Stopped g ending function) n sized over invariant = tt
has_ended allowance (Deeper g) n sized over invariant =
    not-all g.frame (ltb (suc g.frame) max_frames) n.frames sized refl invariant.crowded

-- and so none goes on deeper where all frames are there
pub never-deeper : (allowance : ℕ) {last : Next} {g : Registers} (n : Memory) → last ≡ Deeper g → length n.frames ≡ words_for max_frames →
    NextInvariant allowance last n → ⊥
never-deeper allowance {last} {g} n e sized invariant = has_ended allowance (Deeper g) n sized tt (rw e at invariant)

-- where a run goes on deeper, it is under way, and what follows from there follows from its start
pub crowded-invariant : {allowance : ℕ} {last : Next} {g : Registers} {n : Memory} → last ≡ Deeper g → NextInvariant allowance last n →
    Invariant allowance g n
crowded-invariant e invariant = (rw e at invariant).invariant

pub deeper-on : {words : Words} {allowance : ℕ} {first mid last : Next} {m n l : Memory} {g : Registers} → mid ≡ Deeper g
    → SimulatesUntil IsOver words allowance first m mid n →
    SimulatesUntil HasEnded words allowance (Onward g) n last l → SimulatesUntil HasEnded words allowance first m last l
deeper-on {words} {allowance} {first} {mid} {last} {m} {n} {l} {g} e follows deeper =
    record {
      simulates = simulates-on words allowance _ (registers_in first) m n l (Deeper g) last (rw e at follows.simulates) deeper.simulates;
      ended = deeper.ended;
    }

-- of the frames only the counts are left at a run's end
module _ (words : Words) (allowance : ℕ) (m : Memory) (input output «record» : Bytes) (frames few : List ℕ) (values all : Bytes)
    (counts : counts_in few ≡ counts_in frames) where
  outcome-ended : (last : Next) → HasEnded last →
      outcome_from (memory_room m) allowance words last (memory input output «record» frames all)
      ≡ outcome_from (memory_room m) allowance words last (memory input output «record» few values)
  outcome-ended (Onward g) ended = absurd ended
  outcome-ended (Done g) ended = rw counts
  outcome-ended (Stopped g ending function) ended = rw counts
  outcome-ended (Deeper g) ended = absurd ended

  invariant-ended : (last : Next) → HasEnded last → NextInvariant allowance last (memory input output «record» frames all)
      → NextInvariant allowance last (memory input output «record» few values)
  invariant-ended (Onward g) ended invariant = absurd ended
  invariant-ended (Done g) ended invariant = invariant
  invariant-ended (Stopped g ending function) ended invariant = invariant
  invariant-ended (Deeper g) ended invariant = absurd ended

-- THE ROOM GROWN

module _ (few rest : List ℕ) (values all : Bytes) (begins : take (length values) all ≡ values) where
  grown-below : (k : ℕ) → words_for k ≤ length few → words_below k few ≡ words_below k (few ++ rest)
  grown-below k h =
      let there : max_counted ≤ length few = omega arith in
      sym (rw (drop-append-le max_counted few rest there) (take-append-le (24 * k) (drop max_counted few) rest
      (rw (length-drop max_counted few) (omega arith))))

  grown-values : (k : ℕ) → 16 * k ≤ length values → take (16 * k) values ≡ take (16 * k) all
  grown-values k h = rw begins at (take-take (16 * k) (length values) all h)

  module _ (input output «record» : Bytes) (words : Words) (allowance : ℕ) (g : Registers)
      (u : Invariant allowance g (memory input output «record» few values))
      (sized : length (few ++ rest) ≡ words_for max_frames) (wide : length all ≡ values_for max_frames) where
    grown-counts : counts_in (few ++ rest) ≡ counts_in few
    grown-counts = take-append-le max_counted few rest (omega (arith, u.ready.room.frame.frame_room))

    -- the frames that wait, and the current one with them
    waiting-there : words_below g.frame few ≡ words_below g.frame (few ++ rest)
    waiting-there = grown-below g.frame (omega (arith, u.ready.room.frame.frame_room))

    current-there : words_below (suc g.frame) few ≡ words_below (suc g.frame) (few ++ rest)
    current-there = grown-below (suc g.frame) u.ready.room.frame.frame_room

    stored_there : values_for (suc g.frame) ≤ length values
    stored_there = u.ready.room.values g.frame u.ready.room.frame.frame_room

    grown-invariant : Invariant allowance g (memory input output «record» (few ++ rest) all)
    grown-invariant =
        let r = u.ready in
        record {
          ready =
              record {
                room =
                    record {
                      selection = r.room.selection;
                      written = r.room.written;
                      frame = record { framed = r.room.frame.framed; frame_room = omega (arith, sized, r.room.frame.framed) };
                      values = λ k h. omega (arith, sized, wide, h);
                    };
                paid = r.paid;
                counts = λ i. rw grown-counts (r.counts i);
                waits = waits-same few (few ++ rest) g.frame waiting-there (length input) r.waits;
              };
          current = held_same few (few ++ rest) (suc g.frame) current-there g.frame (omega arith) u.current;
        }

    grown-outcome : outcome_from (memory_room (memory input output «record» few values)) allowance words (Onward g)
        (memory input output «record» few values) ≡
        outcome_from (memory_room (memory input output «record» few values)) allowance words (Onward g)
        (memory input output «record» (few ++ rest) all)
    grown-outcome =
        rw (
          grown-counts,
          local_same few (few ++ rest) (suc g.frame) current-there values all (grown-values (suc g.frame) stored_there)
              g.frame (omega arith),
        )
        (waiting-same (memory_room (memory input output «record» few values)) allowance words few (few ++ rest) values all g.frame waiting-there
        (grown-values g.frame (omega (arith, stored_there))) _)

    -- followed to its end there, and the counts brought back
    grown-follows : (last : Next) (input' output' «record'» : Bytes) (frames few' : List ℕ) (values' : Bytes) → length frames ≡ words_for max_frames →
        counts_in few' ≡ counts_in frames →
        SimulatesUntil IsOver words allowance (Onward g) (memory input output «record» (few ++ rest) all) last
        (memory input' output' «record'» frames values') →
        SimulatesUntil HasEnded words allowance (Onward g) (memory input output «record» few values) last
        (memory input' output' «record'» few' values)
    grown-follows last input' output' «record'» frames few' values' whole counts follows =
        let l = follows.simulates in
        let ended = has_ended allowance last (memory input' output' «record'» frames values') whole follows.ended l.invariant in
        record {
          simulates =
              record {
                same = grown-outcome ∙ l.same ∙
                    outcome-ended words allowance (memory input output «record» few values) input' output' «record'» frames few' values values' counts
                    last ended;
                invariant = invariant-ended words allowance (memory input output «record» few values) input' output' «record'» frames few' values
                    values' counts
                    last ended l.invariant;
                room = l.room;
                beyond = l.beyond;
              };
          ended = ended;
        }

-- what was copied: the words lent begin the room for all frames, and so do the values
pub record Grown (few words : List ℕ) (values stored : Bytes) : Type 0 where
  pub rest : List ℕ
  pub begun : words ≡ few ++ rest
  pub begins : take (length values) stored ≡ values
  pub sized : length words ≡ words_for max_frames
  pub wide : length stored ≡ values_for max_frames

pub pasted-begins : (old values stored : Bytes) → length values ≤ length old → stored ≡ paste old 0 values (length values)
    → take (length values) stored ≡ values
pasted-begins old values stored h e =
    let none : length values ≡ 0 + length values = omega arith in
    rw e (ap (λ n. take n (paste old 0 values (length values))) none ∙ take-paste old 0 values (length values) (omega arith) (omega arith) ∙
    take-length values)

pub counts-back : (few few' words : List ℕ) → few' ≡ take max_counted words ++ drop max_counted few → max_counted ≤ length words → counts_in few'
    ≡ counts_in words
counts-back few few' words e h = rw e (take_at (take max_counted words) (drop max_counted few) max_counted (length-take-le max_counted words h))

module _ {few many : List ℕ} {values stored : Bytes} (grown : Grown few many values stored) (input output «record» : Bytes) (words : Words)
    (allowance : ℕ) (g : Registers)
    (u : Invariant allowance g (memory input output «record» few values)) where
  pub deeper-invariant : Invariant allowance g (memory input output «record» many stored)
  deeper-invariant =
      rw grown.begun
      (grown-invariant few grown.rest values stored grown.begins input output «record» words allowance g u (rw grown.begun at grown.sized)
      grown.wide)

  pub deeper-follows : (last : Next) (input' output' «record'» : Bytes) (frames few' : List ℕ) (values' : Bytes) → length frames ≡
      words_for max_frames →
      counts_in few' ≡ counts_in frames →
      SimulatesUntil IsOver words allowance (Onward g) (memory input output «record» many stored) last
      (memory input' output' «record'» frames values') →
      SimulatesUntil HasEnded words allowance (Onward g) (memory input output «record» few values) last (memory input' output' «record'» few' values)
  deeper-follows last input' output' «record'» frames few' values' whole counts follows =
      grown-follows few grown.rest values stored grown.begins input output «record» words allowance g u (rw grown.begun at grown.sized)
      grown.wide
      last input' output' «record'» frames few' values' whole counts (rw grown.begun at follows)
