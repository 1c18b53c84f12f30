use Rattle.std.proofs.Common.{◌≡◌, ◌∙◌, ◌<◌, ◌+◌, ap, arith, rules, subst, sym}
use Rattle.pl_backup.specs.BackupTree.{items_found}
use Rattle.pl_backup.specs.Reading.{HasFound, children}
use Rattle.pl_backup.specs.Weights.{items_weight}
use Rattle.pl_backup.proofs.ReadingSteps.{Reads, closed_found, inner_room, inner_weight, opened_found}
use Rattle.pl_backup.proofs.ReadingSteps.{reads_more}
use Rattle.pl_backup.proofs.found.Found.+push_values.Goals as goal
use Rattle.serde_json.specs.Data.{Items, item}
use Rattle.serde_json.specs.View.{items_view, view}

pub push_values-requires : goal.push_values-requires
push_values-requires t c =
    let all = items_view c.args.values.now in
    let value = view c.in-Some.value.now in
    let more = items_view c.in-Some.behind.now in
    let now = c.loop-value.self in
    let front : Reads c.args.depth all c.args.self.now (item value more) now =
    subst (λ (left : Items). Reads c.args.depth all c.args.self.now left now)
    (ap items_view c.in-Some.ensures.cases.0) c.loop-value.invariant in
    let below : items_weight (items_view c.below.result.now) ≡ items_weight (children value) =
    ap items_weight c.below.ensures in
    let smaller : items_weight (items_view c.below.result.now) < items_weight all =
    omega (arith, below, inner_weight c.args.depth all c.args.self.now now value more front) in
    let room : c.push_value.new.self.skipped + items_weight (items_view c.below.result.now) < 4294967296 =
    omega (
      arith,
      below,
      c.requires.room,
      inner_room c.args.depth all c.args.self.now now c.push_value.new.self value more front
          c.in_ok-push_value.ensures.1,
    ) in
    let shallow : c.args.depth + 1 + items_weight (items_view c.below.result.now) < 4294967296 =
    omega (
      arith,
      below,
      c.requires.shallow,
      inner_weight c.args.depth all c.args.self.now now value more front,
    ) in
    search rules

pub loop-value-preserved-in_ok-push_values : goal.loop-value-preserved-in_ok-push_values
loop-value-preserved-in_ok-push_values t c =
    let all = items_view c.args.values.now in
    let value = view c.in-Some.value.now in
    let more = items_view c.in-Some.behind.now in
    let now = c.loop-value.self in
    let front : Reads c.args.depth all c.args.self.now (item value more) now =
    subst (λ (left : Items). Reads c.args.depth all c.args.self.now left now)
    (ap items_view c.in-Some.ensures.cases.0) c.loop-value.invariant in
    let inner : HasFound (items_found (c.args.depth + 1) (children value)) c.push_value.new.self c.push_values.new.self =
    subst
    (λ (items : Items). HasFound (items_found (c.args.depth + 1) items) c.push_value.new.self c.push_values.new.self)
    c.below.ensures c.in_ok-push_values.ensures in
    reads_more c.args.depth all c.args.self.now now c.push_values.new.self value more front
    (opened_found c.args.depth value now c.push_value.new.self c.push_values.new.self
    (sym c.in_ok-push_value.ensures.0 ∙ c.if-branch.true) c.in_ok-push_value.ensures.1 inner)

pub loop-value-preserved : goal.loop-value-preserved
loop-value-preserved t c =
    let all = items_view c.args.values.now in
    let value = view c.in-Some.value.now in
    let more = items_view c.in-Some.behind.now in
    let now = c.loop-value.self in
    let front : Reads c.args.depth all c.args.self.now (item value more) now =
    subst (λ (left : Items). Reads c.args.depth all c.args.self.now left now)
    (ap items_view c.in-Some.ensures.cases.0) c.loop-value.invariant in
    reads_more c.args.depth all c.args.self.now now c.push_value.new.self value more front
    (closed_found c.args.depth value now c.push_value.new.self
    (sym c.in_ok-push_value.ensures.0 ∙ c.if-branch.false) c.in_ok-push_value.ensures.1)
