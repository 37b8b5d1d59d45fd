-- Each turn writes the text that its line owes, and so does a whole call.
use Rattle.std.specs.Prelude.{Option, Some, None}
use mathlib.Core.Path.{◌≡◌, refl, sym, ap, subst, ◌∙◌}
use mathlib.Core.Bool.{true, false}
use mathlib.Core.List.{List, ◌∷◌, ◌++◌, append_assoc}
use Prim.Native.Nat.{ℕ, ◌+◌, ◌-◌, ◌<◌, ◌≤◌}
use native.Mathlib.Omega.{arith}
use lib.Dec.{ltb}
use lib.ListN.{length, take, drop}
use lib.Seq.{sets, length-sets, drop-length, take-take}
use borrow.Author.Tests.{ltb-true, ltb-false}
use Rattle.choices.proofs.Choices.{by-test, clash}
use Rattle.lines.specs.declared.Taken.{Taken}
use Rattle.lines.specs.Lines.{up_to_lf, lines_of, taken_of, kept_into, LineTaken}
use Rattle.lines.proofs.BegunCut.{begun-cut}
use Rattle.lines.proofs.LinesOfBlocks.{block-ended, block-open, next-open, next_more, next-most, kept-most, kept-is, drop-within}
use Rattle.cdr_write.proofs.BufferHolds.{take-stored, drop-stored}
use Rattle.questions.specs.declared.Progress.{Progress}
use Rattle.ask_octets.specs.Octets.{line_most}
use Rattle.ask_answers.specs.Questions.{question_of}
use Rattle.ask_answers.specs.Replies.{answer_line}
use Rattle.ask_room.specs.Room.{answer_room}
use Rattle.ask_answers.specs.Answers.{table_for, LineAnswered}
use Rattle.questions.specs.Blocks.{AskWork, ask_turn, ask_turns, ask_work, ask_start, ask_block, answers_of, answers_after, QuestionsAnswered}
use Rattle.questions.specs.Turns.{Goes, Onto, Turned}
use Rattle.ask_answers.proofs.WordsAnswered.{answer-most}
use Rattle.ask_room.proofs.RoomTested.{roomy}
use Rattle.ask_answers.proofs.LineByRoom.{line-roomed}
use Rattle.ask_answers.proofs.AnswersCut.{answer-same}
use Rattle.questions.proofs.TurnsOfBlock.{GoesWith, begun-is, answered-is, Going, going_done}

-- the answers of lines see no more of the first than is kept
answers-first : (n : ℕ) → line_most < n → (a b : List ℕ) (rest : List (List ℕ)) → take n a ≡ take n b → answers_of (a ∷ rest) ≡ answers_of (b ∷ rest)
unfolding answers_of
answers-first n h a b rest e = rw (answer-same n h a b e)

-- a turn
module _ (block : List ℕ) (at : Progress) (line out table : List ℕ) (g : Goes (length block) (length line) (length out) (length table) at)
    (t : Taken) (l : List ℕ) (k : LineTaken block at.next line at.kept t l)
  where
    abbrev taken : Taken
    taken = taken_of block at.next (length line) at.kept

    abbrev kept : List ℕ
    kept = kept_into block at.next line at.kept

    -- the line so far, and to its LF or the block's end
    abbrev whole : List ℕ
    whole = take at.kept line ++ up_to_lf (drop at.next block)

    same_size : length kept ≡ length line
    unfolding kept_into
    same_size = length-sets line at.kept (take (length line - at.kept) (up_to_lf (drop at.next block)))

    enough : line_most < length kept
    enough = omega (arith, same_size, g.whole)

    held : take taken.kept kept ≡ take (length kept) whole
    held = kept-is block at.next line at.kept

    taken-held : take t.kept l ≡ take taken.kept kept
    taken-held = rw (k.answered, k.filled)

    pub taken-within : t.kept ≤ length l
    taken-within = rw (k.answered, k.filled) (omega (arith, same_size, kept-most block at.next (length line) at.kept))

    lined : length l ≡ length line
    lined = ap length k.filled ∙ same_size

    next-is : t.next ≡ taken.next
    next-is = ap (λ (x : Taken). x.next) k.answered

    ended_is : t.ended ≡ taken.ended
    ended_is = ap (λ (x : Taken). x.ended) k.answered

    on : at.next < t.next
    on = rw next-is (next_more block at.next (length line) at.kept g.more)

    most : t.next ≤ length block
    most = rw next-is (next-most block at.next (length line) at.kept)

    answer-is : answer_line whole ≡ answer_line (take t.kept l)
    answer-is =
        answer-same (length kept) enough whole (take t.kept l)
        (sym (take-take (length kept) (length kept) whole (omega arith)) ∙ ap (take (length kept)) (sym held ∙ sym taken-held))

    abbrev before : AskWork
    before = ask_work at line out table

    onto-begun : t.ended ≡ false → Onto block at line out (record { kept = t.kept; next = t.next; filled = at.filled }) l out
    onto-begun e =
        let f : taken.ended ≡ false = sym ended_is ∙ e in
        let n = on in
        record {
          answered = λ rest.
              ap (λ (x : List ℕ). take at.filled out ++ x)
              (ap answers_of (block-open block at.next (length line) at.kept (take at.kept line) rest f)
              ∙ sym (begun-cut (length kept) (omega (arith, enough)) answers_of (answers-first (length kept) enough) whole rest)
              ∙ rw (taken-held, held, next-is, next-open block at.next (length line) at.kept f, drop-length block));
          sized = refl;
          lined = lined;
          within = λ h. h;
          unfilled = refl;
          more = omega arith;
          further = omega arith;
          moved = λ h. n;
          inside = λ h. most;
        }

    pub turn-begun : t.ended ≡ false → Turned block before (ask_work (record { kept = t.kept; next = t.next; filled = at.filled }) l out table)
    turn-begun e = record { on = on; onto = onto-begun e; is = begun-is block before t l k e }

    module _ (e : t.ended ≡ true) where
      abbrev text : List ℕ
      text = answer_line (take t.kept l)

      fits : at.filled + length text ≤ length out
      fits = omega (arith, answer-most (take t.kept l), g.room)

      text-first : (rest : List ℕ)
          → answers_after at.kept line (drop at.next block ++ rest) ≡ text ++ answers_of (lines_of (drop t.next block ++ rest))
      unfolding answers_of
      text-first rest =
          rw (block-ended block at.next (length line) at.kept (take at.kept line) rest (sym ended_is ∙ e), answer-is, next-is)

      onto-ended : Onto block at line out (record { kept = 0; next = t.next; filled = at.filled + length text }) l (sets out at.filled text)
      onto-ended =
          let n = on in
          let w = fits in
          record {
            answered = λ rest.
                ap (λ (x : List ℕ). take at.filled out ++ x) (text-first rest)
                ∙ sym (append_assoc (take at.filled out) text _)
                ∙ ap (λ (x : List ℕ). x ++ answers_of (lines_of (drop t.next block ++ rest))) (sym (take-stored out text at.filled fits));
            sized = length-sets out at.filled text;
            lined = lined;
            within = λ h. w;
            unfilled = drop-stored out text at.filled fits;
            more = omega arith;
            further = omega arith;
            moved = λ h. n;
            inside = λ h. most;
          }

      pub has_room : true ≡ answer_room (length table) (length out) at.filled
      has_room = roomy (length table) (length out) at.filled g.tabled g.room

      module _ (r : Option ℕ) (out_last table_last : List ℕ) (s : LineAnswered (take t.kept l) out table at.filled r out_last table_last) where
        upto : r ≡ Some (at.filled + length text)
        upto = s.written ∙ rw (← has_room)

        pub turn-always : {G : Type 0} → r ≡ None → G
        turn-always u = let w = upto in clash cc

        pub turn-ended : (end : ℕ) → r ≡ Some end → Turned block before (ask_work (record { kept = 0; next = t.next; filled = end }) l out_last table_last)
        turn-ended end u =
            let w = upto in
            let f : end ≡ at.filled + length text = cc in
            let o : out_last ≡ sets out at.filled text = s.output ∙ rw (← has_room) in
            let b : table_last ≡ table_for (question_of (take t.kept l)) table = s.tabled ∙ rw (← has_room) in
            record { on = on; onto = rw (f, o) onto-ended; is = answered-is block before t l k e end out_last table_last f o b }

-- the definition's own turn
pub turn-of : (block : List ℕ) (w : AskWork) → GoesWith block w → Turned block w (ask_turn block w)
turn-of block w g =
    let t = taken_of block w.at.next (length w.line) w.at.kept in
    let l = kept_into block w.at.next w.line w.at.kept in
    let k : LineTaken block w.at.next w.line w.at.kept t l = record { answered = refl; filled = refl } in
    by-test t.ended
    (λ e.
    let s = line-roomed (take t.kept l) w.out w.table w.at.filled (has_room block w.at w.line w.out w.table g t l k e) in
    let z = turn-ended block w.at w.line w.out w.table g t l k e _ _ _ s _ refl in
    subst (Turned block w) z.is z)
    (λ e. let z = turn-begun block w.at w.line w.out w.table g t l k e in subst (Turned block w) z.is z)

-- a whole call
pub block-answered : (block : List ℕ) (from : ℕ) (line out table : List ℕ) (kept : ℕ) (start r : Progress) (line_last out_last table_last : List ℕ)
    → start ≡ ask_start block from kept → Going block (ask_work start line out table) (ask_work r line_last out_last table_last)
    → (Goes (length block) (length line_last) (length out_last) (length table_last) r → ⊥)
    → QuestionsAnswered block from line out table kept r line_last out_last table_last
unfolding ask_block
block-answered block from line out table kept start r line_last out_last table_last e g off =
    let p : Onto block (ask_start block from kept) line out r line_last out_last = rw e at g.onto in
    let i = p.inside (omega arith) in
    let z = p.sized in
    let n = p.lined in
    let b = g.tabled in
    record {
      answered = λ rest. sym (ap (λ (x : List ℕ). answers_after kept line (x ++ rest)) (drop-within from block)) ∙ p.answered rest;
      within = p.within (omega arith);
      unfilled = p.unfilled;
      reached = λ h f k.
          by-test (ltb r.next (length block))
          (λ t. absurd (off (record { more = ltb-true _ _ t; whole = omega arith; tabled = omega arith; room = omega arith })))
          (λ t. omega (arith, ltb-false r.next (length block) t));
      onward = λ h f k l.
          by-test (ltb r.next (length block))
          (λ t.
          by-test (ltb 0 r.filled)
          (λ u. omega (arith, p.moved (ltb-true _ _ u)))
          (λ u.
          let v = ltb-false 0 r.filled u in
          absurd (off (record { more = ltb-true _ _ t; whole = omega arith; tabled = omega arith; room = omega arith }))))
          (λ t. let v = ltb-false r.next (length block) t in omega arith);
      decided = going_done g off ∙ ap (λ (x : Progress). ask_turns (length block) block (ask_work x line out table)) e;
    }
