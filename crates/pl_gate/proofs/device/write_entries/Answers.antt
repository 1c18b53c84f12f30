use Rattle.std.specs.Int.{w64, to_le_bytes}
use Rattle.std.proofs.Common.{◌≡◌, ◌<◌, ℕ, ◌+◌, ◌*◌, List, ◌++◌, length, take, drop, refl, sym, ◌∙◌, ap, subst, arith}
use Rattle.std.proofs.lemmas.List.{length-append}
use Rattle.pl_desk.specs.Desk.{Follows, Torn}
use Rattle.pl_desk.specs.Shown.{ShowsStep}
use Rattle.pl_gate.specs.Gate.{entry_size}
use Rattle.pl_gate.specs.Device.{Range, TornIn, entry_bytes, entry_ranges}
use Rattle.pl_gate.proofs.Moments.{began, went}
use Rattle.pl_gate.proofs.Ranges.{torn_in_same, follows_more, follows_front, entries_more, entries_all, held_entries}
use Rattle.pl_gate.proofs.Ranges.{map_none, nth}
use Rattle.pl_gate.proofs.device.write_entries.Given.{Over}
use Rattle.pl_gate.proofs.device.write_entries.Goals.{After-write_at}
use Rattle.pl_gate.proofs.device.write_entries.Goals as goal

pub loop-index-init : goal.loop-index-init
loop-index-init g c =
    let desk = g.D.Desk in let old = c.args.desk.now in
    let ranges = entry_ranges c.args.start c.args.touched.now.pages in
    record {
      within = omega arith;
      held = map_none (desk.held old);
      leaves = λ file left. (file, left, refl);
      moments = began desk g.met.D.Desk.only_now old (TornIn ranges) (torn_in_same ranges);
      line = record { said = refl; faults = refl };
      written = omega arith;
      no_fault = refl;
    }

less : (g : Over) (c : After-write_at g) → c.loop-index.index < length c.args.touched.now.pages
less g c = rw (sym c.count.ensures.count) c.loop-index-test.true

-- the bytes of the entry
entry_is : (g : Over) (c : After-write_at g)
    → c.entry_bytes-entry.result ≡ entry_bytes (nth c.args.touched.now.pages c.loop-index.index)
entry_is g c =
    c.entry_bytes-entry.ensures
    ∙ ap (λ (n : ℕ). to_le_bytes w64 n ++ c.image.result.now) c.page.ensures
    ∙ ap (λ (l : List ℕ). to_le_bytes w64 (nth c.args.touched.now.pages c.loop-index.index).page ++ l)
    c.image.ensures.image

entry_len : (g : Over) (c : After-write_at g) → length c.entry_bytes-entry.result ≡ entry_size
entry_len g c =
    ap length c.entry_bytes-entry.ensures ∙ length-append (to_le_bytes w64 c.page.result) c.image.result.now
    ∙ ap (λ (n : ℕ). 8 + n) c.image.ensures.whole

-- what a stop may leave once one entry more was begun
begun : (g : Over) (c : After-write_at g)
    → Follows (TornIn (entry_ranges c.args.start (take (c.loop-index.index + 1) c.args.touched.now.pages)))
    (g.D.Desk.may_leave c.args.desk.now) (g.D.Desk.may_leave c.write_at.new.self)
begun g c =
    let desk = g.D.Desk in let pages = c.args.touched.now.pages in let k = c.loop-index.index in
    let at = c.args.start in
    let torn =
    subst (λ (n : ℕ). Follows (Torn (at + entry_size * k) n) (desk.may_leave c.loop-index.desk)
    (desk.may_leave c.write_at.new.self)) (entry_len g c) c.write_at.ensures.leaves in
    subst (λ (l : List Range). Follows (TornIn l) (desk.may_leave c.args.desk.now) (desk.may_leave c.write_at.new.self))
    (sym (entries_more at pages k (less g c)))
    (follows_more (entry_ranges at (take k pages)) (at + entry_size * k, entry_size) (desk.may_leave c.args.desk.now)
    (desk.may_leave c.loop-index.desk) (desk.may_leave c.write_at.new.self) c.loop-index.invariant.leaves torn)

left : (g : Over) (c : After-write_at g)
    → Follows (TornIn (entry_ranges c.args.start c.args.touched.now.pages)) (g.D.Desk.may_leave c.args.desk.now)
    (g.D.Desk.may_leave c.write_at.new.self)
left g c =
    let desk = g.D.Desk in let pages = c.args.touched.now.pages in let k = c.loop-index.index + 1 in
    let at = c.args.start in
    subst (λ (l : List Range). Follows (TornIn l) (desk.may_leave c.args.desk.now) (desk.may_leave c.write_at.new.self))
    (entries_all at pages k)
    (follows_front (entry_ranges at (take k pages))
    (entry_ranges (at + entry_size * length (take k pages)) (drop k pages)) (desk.may_leave c.args.desk.now)
    (desk.may_leave c.write_at.new.self) (begun g c))

shown : (g : Over) (c : After-write_at g)
    → ShowsStep g.D.Desk c.args.desk.now c.write_at.new.self
    (TornIn (entry_ranges c.args.start c.args.touched.now.pages))
shown g c =
    let desk = g.D.Desk in
    went desk c.args.desk.now c.loop-index.desk c.write_at.new.self
    (TornIn (entry_ranges c.args.start c.args.touched.now.pages))
    c.loop-index.invariant.moments c.loop-index.invariant.line.said c.write_at.ensures.time (left g c)

pub returns-in_err-write_at-clause-torn : goal.returns-in_err-write_at-clause-torn
returns-in_err-write_at-clause-torn g c =
    record { leaves = left g c.before.before.before; moments = shown g c.before.before.before }

pub loop-index-preserved : goal.loop-index-preserved
loop-index-preserved g c =
    let desk = g.D.Desk in let pages = c.args.touched.now.pages in let k = c.loop-index.index in
    record {
      within = omega (arith, less g c.before.before);
      held =
          held_entries c.args.start pages k (desk.held c.args.desk.now) (desk.held c.loop-index.desk)
          (desk.held c.write_at.new.self) c.entry_bytes-entry.result (less g c.before.before)
          c.loop-index.invariant.held c.in_ok-write_at.ensures.held (entry_is g c.before.before);
      leaves = begun g c.before.before;
      moments = shown g c.before.before;
      line = record {
        said = c.write_at.ensures.said ∙ c.loop-index.invariant.line.said;
        faults = c.write_at.ensures.line ∙ c.loop-index.invariant.line.faults;
      };
      written =
          c.in_ok-write_at.ensures.written ∙ omega (arith, c.loop-index.invariant.written, entry_len g c.before.before);
      no_fault = c.in_ok-write_at.ensures.counted ∙ c.loop-index.invariant.no_fault;
    }
