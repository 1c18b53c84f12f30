use Rattle.std.proofs.Common.{◌≡◌, ◌∙◌, ◌++◌, ◌∷◌, [], List, ℕ, ap, append_assoc, refl, rules, w64}
use Rattle.std.specs.Fmt.{signed_decimal}
use Rattle.std.specs.Prelude.{codes, decimal}
use Rattle.std.specs.String.{string_bytes}
use Rattle.std.proofs.lemmas.Int.{to_z-of_z}
use Rattle.pl_script.specs.Reply.{date_text, line_text}
use Rattle.pl_script.specs.Script.{escaped}
use Rattle.pl_script.proofs.rows.found.push_row.Goals as goal

-- what stands before a part, and the part with what stands behind it
back : (whole s t x rest : List ℕ) → whole ≡ t ++ rest → t ≡ s ++ x → whole ≡ s ++ (x ++ rest)
back whole s t x rest all is = all ∙ ap (λ front. front ++ rest) is ∙ append_assoc s x rest

-- a word, seven fields and the end of the line, one after another
joined : (s0 s1 s2 s3 s4 s5 s6 s7 s8 s9 a b c d e f g : List ℕ) → s1 ≡ s0 ++ codes "row" → s2 ≡ s1 ++ 9 ∷ a
    → s3 ≡ s2 ++ 9 ∷ b → s4 ≡ s3 ++ 9 ∷ c → s5 ≡ s4 ++ 9 ∷ d → s6 ≡ s5 ++ 9 ∷ e → s7 ≡ s6 ++ 9 ∷ f
    → s8 ≡ s7 ++ 9 ∷ g → s9 ≡ s8 ++ codes "\n"
    → s9 ≡ s0 ++ line_text (codes "row" ∷ a ∷ b ∷ c ∷ d ∷ e ∷ f ∷ g ∷ [])
joined s0 s1 s2 s3 s4 s5 s6 s7 s8 s9 a b c d e f g word is_a is_b is_c is_d is_e is_f is_g end =
    let at_g = back s9 s7 s8 (9 ∷ g) (codes "\n") end is_g in
    let at_f = back s9 s6 s7 (9 ∷ f) _ at_g is_f in
    let at_e = back s9 s5 s6 (9 ∷ e) _ at_f is_e in
    let at_d = back s9 s4 s5 (9 ∷ d) _ at_e is_d in
    let at_c = back s9 s3 s4 (9 ∷ c) _ at_d is_c in
    let at_b = back s9 s2 s3 (9 ∷ b) _ at_c is_b in
    let at_a = back s9 s1 s2 (9 ∷ a) _ at_b is_a in
    back s9 s0 s1 (codes "row") _ at_a word ∙ simp append_assoc refl

pub returns-clause-exact : goal.returns-clause-exact
unfolding lib.Utf8.encode
returns-clause-exact c =
    let row = c.args.row.now in
    let same = to_z-of_z w64 row.frecency (search rules) in
    joined (string_bytes c.args.text.now) _ _ _ _ _ _ _ _ _ (decimal row.id) (escaped row.url) (escaped row.title)
    (date_text row.date) (decimal row.count) (signed_decimal row.frecency) (escaped row.tags)
    c.in_ok-push_str.ensures.bytes
    c.in_ok-push_number.ensures
    (c.in_ok-push_text.ensures.exact ∙ ap (λ t. string_bytes c.push_number.new.text ++ 9 ∷ escaped t) c.as_str.ensures)
    (c.in_ok-push_text-2.ensures.exact
    ∙ ap (λ t. string_bytes c.push_text.new.text ++ 9 ∷ escaped t) c.as_str-2.ensures)
    c.in_ok-push_date.ensures
    c.in_ok-push_number-2.ensures
    (c.in_ok-push_number-3.ensures
    ∙ ap (λ z. string_bytes c.push_number-2.new.text ++ 9 ∷ signed_decimal z) same)
    (c.in_ok-push_text-3.ensures.exact
    ∙ ap (λ t. string_bytes c.push_number-3.new.text ++ 9 ∷ escaped t) c.as_str-3.ensures)
    c.in_ok-push.ensures.bytes
