use Rattle.std.proofs.Common.{◌≡◌, ℕ, List, length, take, ap, refl, sym, ◌∙◌}
use Rattle.std.proofs.lemmas.List.{length-take, nil_from_length, take_min}
use Rattle.pl_base.specs.Touched.{Change, PageImage, bytes_before, changed, with_pages}
use Rattle.pl_store.proofs.pending.Pending.of.Goals as goal

-- a change of no page leaves a front of the bytes
front_left : (change : Change) (bytes : List ℕ) → length change.pages ≡ 0
    → take (length (changed change bytes)) bytes ≡ changed change bytes
front_left change bytes none =
    let end = bytes_before change.after in
    let cut : changed change bytes ≡ take end bytes =
    ap (λ (pages : List PageImage). with_pages pages (take end bytes)) (nil_from_length change.pages none) in
    rw cut (ap (λ (n : ℕ). take n bytes) (length-take end bytes) ∙ take_min end bytes)

pub returns-then-count-eq0 : goal.returns-then-count-eq0
returns-then-count-eq0 c = record {
  leads = λ before len. front_left c.args.touched before (sym c.count.ensures.count ∙ c.if-count-eq0.true);
  none = λ empty. refl;
  pages = sym (sym c.count.ensures.count ∙ c.if-count-eq0.true);
}
