-- `Progress::put_events` meets its contract. Assumes nothing.
use Rattle.std.proofs.Common.{rules, refl, sym, ap, ◌∙◌, true, arith}
use lib.ListN.{length-drop}
use Rattle.ledger.specs.declared.Answer.{Answer}
use Rattle.account.specs.Step.{stepped_of}
use Rattle.printing.specs.Printer.{Writes}
use Rattle.transcript.proofs.Whole.{in-buffer}
use Rattle.transcript.proofs.Turn.{begins, turns, pauses, stops, ends, room_left, from-place, next-event, left-as}
use Rattle.transcript.proofs.Progress.put_events.Goals.{else-loop-self-test, then-loop-self-test+else-page-lt-PIECE_ROOM+in_default}
use Rattle.transcript.proofs.Progress.put_events.Goals as goal

pub loop-self-init : goal.loop-self-init
loop-self-init c = let r = c.requires in (refl, r.1, r.0, begins _ _ _ _ _ r.3 r.2)

pub returns-then-page-lt-PIECE_ROOM : goal.returns-then-page-lt-PIECE_ROOM
returns-then-page-lt-PIECE_ROOM c =
    let r = c.requires in
    let i = c.loop-self.invariant in
    in-buffer c.loop-self.page.out.now (search (rules, sym i.0))
    (left-as c.loop-self.self _ _ i.1 i.2
    (pauses _ _ _ _ _ _ _ _ i.3 r.0 r.1 r.2 r.3 c.loop-self-test.true c.if-page-lt-PIECE_ROOM.true))

pub loop-self-preserved : goal.loop-self-preserved
loop-self-preserved c =
    let i = c.loop-self.invariant in
    let line = c.put_event-in-loop-self.ensures in
    let wrote = rw (ap (λ (a : Answer). a.code) c.from.ensures, ap (λ (a : Answer). a.value) c.from.ensures) at line.0.wrote in
    let e = rw (from-place c.args.text.now c.loop-self.self.at) at c.in-Some.ensures in (
      line.0.same ∙ i.0,
      i.1,
      i.2,
      turns _ _ _ _ _ _ _ _ _ _ i.3 _ _ (stepped_of c.post-answer.new.self c.post-answer.result) _ _ c.loop-self-test.true
          (next-event _ _ _ _ c.loop-self-test.true e.read) (omega (arith, e.shorter, length-drop c.loop-self.self.at c.args.text.now)) (omega arith)
          c.if-page-lt-PIECE_ROOM.false c.post-answer.ensures wrote line.1,
    )

pub put_last_line-requires : goal.put_last_line-requires
put_last_line-requires c = elim c.loop-self-test.branch [
  | else-loop-self-test w ↦ rw w.page-is c.loop-self.invariant.3.room
  | then-loop-self-test+else-page-lt-PIECE_ROOM+in_default w ↦ rw w.page-is (room_left w.if-page-lt-PIECE_ROOM.false w.put_event.ensures.0.wrote w.put_event.ensures.1)
]

pub returns : goal.returns
returns c =
    let r = c.requires in
    let i = c.loop-self.invariant in
    let p = c.put_last_line.new.page in
    elim c.loop-self-test.branch [
      | else-loop-self-test w ↦
          let v : Writes c.loop-self.page _ p = rw w.page-is at c.put_last_line.ensures in
          in-buffer p.out.now (search (rules, sym (v.same ∙ i.0)))
          (left-as (record c.loop-self.self { done = true }) p.at true i.1 refl
          (ends _ _ _ _ _ _ _ _ i.3 r.0 r.1 r.2 r.3 _ _ w.loop-self-test.false v.wrote))
      | then-loop-self-test+else-page-lt-PIECE_ROOM+in_default w ↦
          let v : Writes w.put_event.new.page _ p = rw w.page-is at c.put_last_line.ensures in
          let f = w.from-malformed.ensures in
          let line = rw (ap (λ (a : Answer). a.code) f, ap (λ (a : Answer). a.value) f) at w.put_event.ensures.0.wrote in
          in-buffer p.out.now (search (rules, sym (v.same ∙ w.put_event.ensures.0.same ∙ i.0)))
          (left-as (record c.loop-self.self { done = true }) p.at true i.1 refl
          (stops _ _ _ _ _ _ _ _ i.3 r.0 r.1 r.2 r.3 _ _ _ _ w.loop-self-test.true w.if-page-lt-PIECE_ROOM.false (rw (from-place c.args.text.now c.loop-self.self.at) at w.in_default.ensures.read) line v.wrote))
    ]
