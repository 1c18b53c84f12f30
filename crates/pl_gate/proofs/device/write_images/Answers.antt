use Rattle.std.specs.Option.{option_map}
use Rattle.std.proofs.Common.{◌≡◌, ◌<◌, ℕ, ◌+◌, ◌*◌, List, length, take, drop, refl, sym, ◌∙◌, ap, subst, arith}
use Rattle.pl_base.specs.Touched.{page_size}
use Rattle.pl_desk.specs.Desk.{Follows, Torn, overwritten}
use Rattle.pl_desk.specs.Shown.{ShowsStep}
use Rattle.pl_gate.specs.Device.{Range, TornIn, image_ranges}
use Rattle.pl_gate.proofs.Moments.{began, went}
use Rattle.pl_gate.proofs.Ranges.{torn_in_same, follows_more, follows_front, images_more, images_all, held_images}
use Rattle.pl_gate.proofs.Ranges.{map_none, nth}
use Rattle.pl_gate.proofs.device.write_images.Given.{Over}
use Rattle.pl_gate.proofs.device.write_images.Goals.{After-write_at}
use Rattle.pl_gate.proofs.device.write_images.Goals as goal

pub loop-index-init : goal.loop-index-init
loop-index-init g c =
    let desk = g.D.Desk in let old = c.args.desk.now in let ranges = image_ranges c.args.touched.now.pages in
    record {
      within = omega arith;
      held = map_none (desk.held old);
      leaves = λ file left. (file, left, refl);
      moments = began desk g.met.D.Desk.only_now old (TornIn ranges) (torn_in_same ranges);
      line = record { said = refl; faults = refl };
      written = omega arith;
      no_fault = refl;
    }

less : (g : Over) (c : After-write_at g) → c.loop-index.index < length c.args.touched.now.pages
less g c = rw (sym c.count.ensures.count) c.loop-index-test.true

-- the write in terms of the page at the index
held_is : (g : Over) (c : After-write_at g)
    → g.D.Desk.held c.write_at.new.self
    ≡ option_map (overwritten 0 (page_size * c.page.result) c.image.result.now) (g.D.Desk.held c.loop-index.desk)
    → g.D.Desk.held c.write_at.new.self
    ≡ option_map (overwritten 0 (page_size * (nth c.args.touched.now.pages c.loop-index.index).page)
    (nth c.args.touched.now.pages c.loop-index.index).image) (g.D.Desk.held c.loop-index.desk)
held_is g c held =
    let before = g.D.Desk.held c.loop-index.desk in let page = nth c.args.touched.now.pages c.loop-index.index in
    held ∙ ap (λ (n : ℕ). option_map (overwritten 0 (page_size * n) c.image.result.now) before) c.page.ensures
    ∙ ap (λ (l : List ℕ). option_map (overwritten 0 (page_size * page.page) l) before) c.image.ensures.image

-- what a stop may leave once one image more was begun
begun : (g : Over) (c : After-write_at g)
    → Follows (TornIn (image_ranges (take (c.loop-index.index + 1) c.args.touched.now.pages)))
    (g.D.Desk.may_leave c.args.desk.now) (g.D.Desk.may_leave c.write_at.new.self)
begun g c =
    let desk = g.D.Desk in let pages = c.args.touched.now.pages in let k = c.loop-index.index in
    let torn =
    subst (λ (n : ℕ). Follows (Torn (page_size * n) page_size) (desk.may_leave c.loop-index.desk)
    (desk.may_leave c.write_at.new.self)) c.page.ensures
    (subst (λ (n : ℕ). Follows (Torn (page_size * c.page.result) n) (desk.may_leave c.loop-index.desk)
    (desk.may_leave c.write_at.new.self)) c.image.ensures.whole c.write_at.ensures.leaves) in
    subst (λ (l : List Range). Follows (TornIn l) (desk.may_leave c.args.desk.now) (desk.may_leave c.write_at.new.self))
    (sym (images_more pages k (less g c)))
    (follows_more (image_ranges (take k pages)) (page_size * (nth pages k).page, page_size)
    (desk.may_leave c.args.desk.now) (desk.may_leave c.loop-index.desk) (desk.may_leave c.write_at.new.self)
    c.loop-index.invariant.leaves torn)

left : (g : Over) (c : After-write_at g)
    → Follows (TornIn (image_ranges c.args.touched.now.pages)) (g.D.Desk.may_leave c.args.desk.now)
    (g.D.Desk.may_leave c.write_at.new.self)
left g c =
    let desk = g.D.Desk in let pages = c.args.touched.now.pages in let k = c.loop-index.index + 1 in
    subst (λ (l : List Range). Follows (TornIn l) (desk.may_leave c.args.desk.now) (desk.may_leave c.write_at.new.self))
    (images_all pages k)
    (follows_front (image_ranges (take k pages)) (image_ranges (drop k pages)) (desk.may_leave c.args.desk.now)
    (desk.may_leave c.write_at.new.self) (begun g c))

shown : (g : Over) (c : After-write_at g)
    → ShowsStep g.D.Desk c.args.desk.now c.write_at.new.self (TornIn (image_ranges c.args.touched.now.pages))
shown g c =
    let desk = g.D.Desk in
    went desk c.args.desk.now c.loop-index.desk c.write_at.new.self (TornIn (image_ranges c.args.touched.now.pages))
    c.loop-index.invariant.moments c.loop-index.invariant.line.said c.write_at.ensures.time (left g c)

pub returns-in_err-write_at-clause-torn : goal.returns-in_err-write_at-clause-torn
returns-in_err-write_at-clause-torn g c =
    record { leaves = left g c.before.before.before; moments = shown g c.before.before.before }

pub loop-index-preserved : goal.loop-index-preserved
loop-index-preserved g c =
    let desk = g.D.Desk in let pages = c.args.touched.now.pages in let k = c.loop-index.index in
    record {
      within = omega (arith, less g c.before.before);
      held =
          held_images pages k (desk.held c.args.desk.now) (desk.held c.loop-index.desk) (desk.held c.write_at.new.self)
          (less g c.before.before) c.loop-index.invariant.held
          (held_is g c.before.before c.in_ok-write_at.ensures.held);
      leaves = begun g c.before.before;
      moments = shown g c.before.before;
      line = record {
        said = c.write_at.ensures.said ∙ c.loop-index.invariant.line.said;
        faults = c.write_at.ensures.line ∙ c.loop-index.invariant.line.faults;
      };
      written = c.in_ok-write_at.ensures.written ∙ omega (arith, c.loop-index.invariant.written, c.image.ensures.whole);
      no_fault = c.in_ok-write_at.ensures.counted ∙ c.loop-index.invariant.no_fault;
    }
