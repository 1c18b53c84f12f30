use Rattle.std.proofs.Common.{Bor, not, refl}
use Rattle.pl_sheets.specs.declared.level.Level.{Level}
use Rattle.pl_sheets.specs.Marks.{has_bit, is_empty}
use Rattle.pl_sheets.proofs.Levels.{first_sums, first_through, none_through}
use Rattle.pl_sheets.proofs.level.Level.+next.Goals.{in-None+in_ok-word-in-None}
use Rattle.pl_sheets.proofs.level.Level.+next.Goals.{in-Some-split_first+in_ok-word-in-Some-split_first}
use Rattle.pl_sheets.proofs.level.Level.+next.Goals as goal

pub returns-in_err-word-in-Some-split_first : goal.returns-in_err-word-in-Some-split_first
returns-in_err-word-in-Some-split_first t c =
    let level = c.in-Some-split_first.level.now in
    rw c.from_residual.ensures
    (none_through c.args.from c.args.self.now.words.items (λ k. has_bit k level.now.words.items)
    (first_sums (λ (l : Bor Level). l.now.words.items) c.args.self.now.words.items c.args.above.now
    c.in-Some-split_first.rest.now level c.in-Some-split_first.ensures.cases.0 c.requires)
    c.in_default.ensures c.in_err-word-in-Some-split_first.ensures)

pub returns : goal.returns
returns t c = elim c.match-split_first.branch [
  | in-Some-split_first+in_ok-word-in-Some-split_first w ↦
      let level = w.in-Some-split_first.level.now in
      first_through c.args.from c.match-split_first.word c.lowest_in.result c.args.self.now.words.items
      (λ k. has_bit k level.now.words.items)
      (first_sums (λ (l : Bor Level). l.now.words.items) c.args.self.now.words.items c.args.above.now
      w.in-Some-split_first.rest.now level w.in-Some-split_first.ensures.cases.0 c.requires)
      c.in_default.ensures (rw w.word-is w.in_ok-word-in-Some-split_first.ensures)
      (rw c.deref.ensures.value at c.lowest_in.ensures.first) c.lowest_in.ensures.within
  | in-None+in_ok-word-in-None w ↦
      first_through c.args.from c.match-split_first.word c.lowest_in.result c.args.self.now.words.items
      (λ k. not (is_empty k c.args.self.now.words.items)) (λ k. refl)
      c.in_default.ensures (rw w.word-is w.in_ok-word-in-None.ensures)
      (rw c.deref.ensures.value at c.lowest_in.ensures.first) c.lowest_in.ensures.within
]
