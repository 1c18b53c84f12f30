use Rattle.std.proofs.Common.{◌≡◌, ◌<◌, ◌&&◌, ℕ, Bool, true, List, [], ◌∷◌, ◌++◌, length, nat_lt, slice_index, ap, ◌∙◌}
use Rattle.std.proofs.Common.{subst, sym, lt-ltb, arith}
use Rattle.std.proofs.lemmas.Bool.{and_parts, ltb-true}
use Rattle.std.proofs.lemmas.List.{length-map}
use Rattle.pl_base.specs.Touched.{PageImage, ascends_above, page_numbers}
use Rattle.trials_gate.proofs.gate.touch.Goals as goal

-- a number above the last one may follow
ascends_more : (last n : ℕ) (ns : List ℕ) → ascends_above last ns ≡ true → slice_index (last ∷ ns) (length ns) < n
    → ascends_above last (ns ++ n ∷ []) ≡ true
ascends_more last n [] ascends above = ap (λ (b : Bool). b && true) (lt-ltb last n above)
ascends_more last n (m ∷ ns) ascends above =
    let first = and_parts (nat_lt last m) (ascends_above m ns) ascends in
    ap (λ (b : Bool). b && ascends_above m (ns ++ n ∷ [])) (lt-ltb last m (ltb-true last m first.0))
    ∙ ascends_more m n ns first.1 above

pub push-requires-clause-above : goal.push-requires-clause-above
push-requires-clause-above g c =
    let numbers = page_numbers c.args.touched.now.pages in
    let last_is =
    c.last_of-last.ensures.last
    ∙ ap (λ (k : ℕ). slice_index (0 ∷ numbers) k)
    (sym (length-map c.args.touched.now.pages (λ (p : PageImage). p.page))) in
    ascends_more 0 c.from-number.result numbers c.last_of-last.ensures.ascending
    (subst (λ (k : ℕ). k < c.from-number.result) last_is (omega arith))
