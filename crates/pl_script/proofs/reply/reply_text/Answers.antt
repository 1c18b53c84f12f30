use Rattle.std.proofs.Common.{◌≡◌, ◌∙◌, ◌++◌, ◌∷◌, ℕ, List, [], ap, append-nil, append_assoc, refl, rules, subst, sym}
use Rattle.std.proofs.Common.{w64}
use Rattle.std.specs.List.{All, join_with_byte}
use Rattle.std.specs.Prelude.{codes, decimal}
use Rattle.std.specs.Fmt.{signed_decimal}
use Rattle.std.proofs.lemmas.Int.{to_z-of_z}
use Rattle.pl_step.specs.declared.reply.Reply.TheVariants.{Day, Visit, Removed, Item, Imported, Restored}
use Rattle.pl_step.specs.declared.reply.Reply.TheVariants.{Rows, Place, Bar, Fill}
use Rattle.pl_step.specs.declared.reply.Reply.TheVariants.{List as ListReply, Refused}
use Rattle.pl_script.specs.Script.{escaped}
use Rattle.pl_script.specs.Reply.{IsFoundAgain, IsOfferedAgain, IsToldAgain}
use Rattle.pl_script.specs.Reply.{date_text, line_text, reply_fields, reply_text, truth_text}
use Rattle.pl_script.proofs.ReplyLines.{never_empty, read_again, tells_fill, tells_found, tells_offered}
use Rattle.pl_script.proofs.ReplyLines.{tells_origin, tells_place, tells_rows, tells_texts}
use Rattle.pl_script.proofs.reply.reply_text.Goals as goal

-- a text of one line
alone : (fields : List (List ℕ)) (text : List ℕ) → text ≡ line_text fields → text ≡ line_text fields ++ []
alone fields text is = is ∙ sym (append-nil (line_text fields))

pub returns-in_ok-format-in-Visit : goal.returns-in_ok-format-in-Visit
returns-in_ok-format-in-Visit c =
    let exact : c.from-in-Visit.result ≡ reply_text c.args.reply.now =
    rw c.in-Visit.is
    (alone (reply_fields (Visit c.in-Visit.visit c.in-Visit.page c.in-Visit.frecency)) c.from-in-Visit.result
    (c.from-in-Visit.ensures ∙ simp append_assoc (c.in_ok-format-in-Visit.ensures.ok))) in
    record {
      exact = exact;
      reads_back = read_again c.args.reply.now c.from-in-Visit.result exact;
      texts = rw c.in-Visit.is tt;
      never_empty = never_empty c.args.reply.now c.from-in-Visit.result exact;
    }

-- three groups of fields, one behind another
joined : (a b c d e f g h i j text : List ℕ) (numbers marks texts : List ℕ)
    → numbers ≡ join_with_byte 9 (a ∷ b ∷ c ∷ d ∷ []) → marks ≡ join_with_byte 9 (e ∷ f ∷ g ∷ [])
    → texts ≡ join_with_byte 9 (h ∷ i ∷ j ∷ [])
    → text ≡ codes "page\t" ++ (numbers ++ (codes "\t" ++ (marks ++ (codes "\t" ++ (texts ++ codes "\n")))))
    → text ≡ line_text (codes "page" ∷ a ∷ b ∷ c ∷ d ∷ e ∷ f ∷ g ∷ h ∷ i ∷ j ∷ []) ++ []
joined a b c d e f g h i j text numbers marks texts n m t written =
    alone (codes "page" ∷ a ∷ b ∷ c ∷ d ∷ e ∷ f ∷ g ∷ h ∷ i ∷ j ∷ []) text
    (written ∙ rw (n, m, t) (simp append_assoc refl))

pub returns-in_ok-format-in-Page : goal.returns-in_ok-format-in-Page
returns-in_ok-format-in-Page c =
    let same = to_z-of_z w64 c.in-Page.frecency (search rules) in
    let numbers =
    c.in_ok-numbers-in-Page.ensures
    ∙ ap (λ z. join_with_byte 9 (decimal c.in-Page.id.0 ∷ signed_decimal z ∷ decimal c.in-Page.count
    ∷ date_text c.in-Page.last ∷ [])) same in
    let exact : c.from-in-Page.result ≡ reply_text c.args.reply.now =
    rw c.in-Page.is
    (c.from-in-Page.ensures
    ∙ joined _ (signed_decimal c.in-Page.frecency) _ _ _ _ _ _ _ _ _ _ _ _ numbers c.in_ok-marks-in-Page.ensures
    c.in_ok-texts-in-Page.ensures.exact c.in_ok-format-in-Page.ensures.ok) in
    let told =
    tells_texts c.in-Page.id c.in-Page.frecency c.in-Page.count c.in-Page.last c.in-Page.typed c.in-Page.hidden
    c.in-Page.bookmarked c.in-Page.url c.in-Page.title c.in-Page.tags c.from-in-Page.result
    (rw c.in-Page.is at exact) c.in_ok-texts-in-Page.ensures.url c.in_ok-texts-in-Page.ensures.title
    c.in_ok-texts-in-Page.ensures.tags in
    record {
      exact = exact;
      reads_back = read_again c.args.reply.now c.from-in-Page.result exact;
      texts = rw c.in-Page.is told;
      never_empty = never_empty c.args.reply.now c.from-in-Page.result exact;
    }

pub returns-in_ok-format-in-Item : goal.returns-in_ok-format-in-Item
returns-in_ok-format-in-Item c =
    let exact : c.from-in-Item.result ≡ reply_text c.args.reply.now =
    rw c.in-Item.is
    (alone (reply_fields (Item c.in-Item.id)) c.from-in-Item.result
    (c.from-in-Item.ensures ∙ simp append_assoc (c.in_ok-format-in-Item.ensures.ok))) in
    record {
      exact = exact;
      reads_back = read_again c.args.reply.now c.from-in-Item.result exact;
      texts = rw c.in-Item.is tt;
      never_empty = never_empty c.args.reply.now c.from-in-Item.result exact;
    }

pub returns-in_ok-list_text-in-List : goal.returns-in_ok-list_text-in-List
returns-in_ok-list_text-in-List c =
    let rows = c.in-List.rows in
    let lines : c.from-in-List.result ≡ reply_text (ListReply rows) =
    c.from-in-List.ensures ∙ c.in_ok-list_text-in-List.ensures.exact
    ∙ ap (λ l. reply_text (ListReply l)) c.as_slice.ensures in
    let told = subst (All IsToldAgain) c.as_slice.ensures c.in_ok-list_text-in-List.ensures.read_again in
    let exact : c.from-in-List.result ≡ reply_text c.args.reply.now = rw c.in-List.is lines in
    record {
      exact = exact;
      reads_back = read_again c.args.reply.now c.from-in-List.result exact;
      texts = rw c.in-List.is (tells_rows rows c.from-in-List.result lines told);
      never_empty = never_empty c.args.reply.now c.from-in-List.result exact;
    }

pub returns-in_ok-refusal_text-in-Refused : goal.returns-in_ok-refusal_text-in-Refused
returns-in_ok-refusal_text-in-Refused c =
    let exact : c.from-in-Refused.result ≡ reply_text c.args.reply.now =
    rw c.in-Refused.is
    (alone (reply_fields (Refused c.in-Refused.refusal)) c.from-in-Refused.result
    (c.from-in-Refused.ensures ∙ c.in_ok-refusal_text-in-Refused.ensures)) in
    record {
      exact = exact;
      reads_back = read_again c.args.reply.now c.from-in-Refused.result exact;
      texts = rw c.in-Refused.is tt;
      never_empty = never_empty c.args.reply.now c.from-in-Refused.result exact;
    }

pub returns-in_ok-format-in-Day : goal.returns-in_ok-format-in-Day
returns-in_ok-format-in-Day c =
    let exact : c.from.result ≡ reply_text c.args.reply.now =
    rw c.in-Day.is
    (alone (reply_fields (Day c.in-Day.day c.in-Day.changed)) c.from.result
    (c.from.ensures ∙ simp append_assoc (c.in_ok-format-in-Day.ensures.ok))) in
    record {
      exact = exact;
      reads_back = read_again c.args.reply.now c.from.result exact;
      texts = rw c.in-Day.is tt;
      never_empty = never_empty c.args.reply.now c.from.result exact;
    }

pub returns-in_ok-format-in-Removed : goal.returns-in_ok-format-in-Removed
returns-in_ok-format-in-Removed c =
    let exact : c.from-in-Removed.result ≡ reply_text c.args.reply.now =
    rw c.in-Removed.is
    (alone (reply_fields (Removed c.in-Removed.visits c.in-Removed.pages)) c.from-in-Removed.result
    (c.from-in-Removed.ensures ∙ simp append_assoc (c.in_ok-format-in-Removed.ensures.ok))) in
    record {
      exact = exact;
      reads_back = read_again c.args.reply.now c.from-in-Removed.result exact;
      texts = rw c.in-Removed.is tt;
      never_empty = never_empty c.args.reply.now c.from-in-Removed.result exact;
    }

pub returns-in_ok-format-in-Imported : goal.returns-in_ok-format-in-Imported
returns-in_ok-format-in-Imported c =
    let exact : c.from-in-Imported.result ≡ reply_text c.args.reply.now =
    rw c.in-Imported.is
    (alone (reply_fields (Imported c.in-Imported.items c.in-Imported.tags c.in-Imported.skipped)) c.from-in-Imported.result
    (c.from-in-Imported.ensures ∙ simp append_assoc (c.in_ok-format-in-Imported.ensures.ok))) in
    record {
      exact = exact;
      reads_back = read_again c.args.reply.now c.from-in-Imported.result exact;
      texts = rw c.in-Imported.is tt;
      never_empty = never_empty c.args.reply.now c.from-in-Imported.result exact;
    }

pub returns-in_ok-format-in-Restored : goal.returns-in_ok-format-in-Restored
returns-in_ok-format-in-Restored c =
    let exact : c.from-in-Restored.result ≡ reply_text c.args.reply.now =
    rw c.in-Restored.is
    (alone (reply_fields (Restored c.in-Restored.items c.in-Restored.tags c.in-Restored.skipped)) c.from-in-Restored.result
    (c.from-in-Restored.ensures ∙ simp append_assoc (c.in_ok-format-in-Restored.ensures.ok))) in
    record {
      exact = exact;
      reads_back = read_again c.args.reply.now c.from-in-Restored.result exact;
      texts = rw c.in-Restored.is tt;
      never_empty = never_empty c.args.reply.now c.from-in-Restored.result exact;
    }

-- three texts, and three fields behind them
names_first : (a b c d e f text names : List ℕ) → names ≡ join_with_byte 9 (a ∷ b ∷ c ∷ [])
    → text ≡ codes "origin\t" ++ (names ++ (codes "\t" ++ (d ++ (codes "\t" ++ (e ++ (codes "\t" ++ (f ++ codes "\n")))))))
    → text ≡ line_text (codes "origin" ∷ a ∷ b ∷ c ∷ d ∷ e ∷ f ∷ []) ++ []
names_first a b c d e f text names n written =
    alone (codes "origin" ∷ a ∷ b ∷ c ∷ d ∷ e ∷ f ∷ []) text (written ∙ rw n (simp append_assoc refl))

pub returns-in_ok-format-in-Origin : goal.returns-in_ok-format-in-Origin
returns-in_ok-format-in-Origin c =
    let exact : c.from-in-Origin.result ≡ reply_text c.args.reply.now =
    rw c.in-Origin.is
    (c.from-in-Origin.ensures
    ∙ names_first (escaped c.in-Origin.prefix) (escaped c.in-Origin.host) (escaped c.in-Origin.reversed)
    (decimal c.in-Origin.total) (decimal c.in-Origin.pages) (truth_text c.in-Origin.passes) _ _
    c.in_ok-names-in-Origin.ensures.exact
    (rw (← c.truth_text-passes.ensures) c.in_ok-format-in-Origin.ensures.ok)) in
    let told =
    tells_origin c.in-Origin.prefix c.in-Origin.host c.in-Origin.reversed c.in-Origin.total c.in-Origin.pages
    c.in-Origin.passes c.from-in-Origin.result (rw c.in-Origin.is at exact) c.in_ok-names-in-Origin.ensures.url
    c.in_ok-names-in-Origin.ensures.title c.in_ok-names-in-Origin.ensures.tags in
    record {
      exact = exact;
      reads_back = read_again c.args.reply.now c.from-in-Origin.result exact;
      texts = rw c.in-Origin.is told;
      never_empty = never_empty c.args.reply.now c.from-in-Origin.result exact;
    }

-- two groups of six fields, one behind the other
both_groups : (a b c d e f g h i j k l text rows totals : List ℕ)
    → rows ≡ join_with_byte 9 (a ∷ b ∷ c ∷ d ∷ e ∷ f ∷ [])
    → totals ≡ join_with_byte 9 (g ∷ h ∷ i ∷ j ∷ k ∷ l ∷ [])
    → text ≡ codes "stats\t" ++ (rows ++ (codes "\t" ++ (totals ++ codes "\n")))
    → text ≡ line_text (codes "stats" ∷ a ∷ b ∷ c ∷ d ∷ e ∷ f ∷ g ∷ h ∷ i ∷ j ∷ k ∷ l ∷ []) ++ []
both_groups a b c d e f g h i j k l text rows totals r t written =
    alone (codes "stats" ∷ a ∷ b ∷ c ∷ d ∷ e ∷ f ∷ g ∷ h ∷ i ∷ j ∷ k ∷ l ∷ []) text
    (written ∙ rw (r, t) (simp append_assoc refl))

pub returns-in_ok-format-in-Stats : goal.returns-in_ok-format-in-Stats
returns-in_ok-format-in-Stats c =
    let exact : c.from-in-Stats.result ≡ reply_text c.args.reply.now =
    rw c.in-Stats.is
    (c.from-in-Stats.ensures
    ∙ both_groups (codes "pages") (decimal c.in-Stats.pages) (codes "visits") (decimal c.in-Stats.visits)
    (codes "items") (decimal c.in-Stats.items) (codes "origins") (decimal c.in-Stats.origins) (codes "sum")
    (decimal c.in-Stats.sum) (codes "slots") (decimal c.in-Stats.slots) _ _ _ c.in_ok-rows-in-Stats.ensures
    c.in_ok-totals-in-Stats.ensures c.in_ok-format-in-Stats.ensures.ok) in
    record {
      exact = exact;
      reads_back = read_again c.args.reply.now c.from-in-Stats.result exact;
      texts = rw c.in-Stats.is tt;
      never_empty = never_empty c.args.reply.now c.from-in-Stats.result exact;
    }

pub returns-in_ok-found_text-in-Rows : goal.returns-in_ok-found_text-in-Rows
returns-in_ok-found_text-in-Rows c =
    let rows = c.in-Rows.rows in
    let lines : c.from-in-Rows.result ≡ reply_text (Rows rows) =
    c.from-in-Rows.ensures ∙ c.in_ok-found_text-in-Rows.ensures.exact
    ∙ ap (λ l. reply_text (Rows l)) c.as_slice-in-Rows.ensures in
    let told = subst (All IsFoundAgain) c.as_slice-in-Rows.ensures c.in_ok-found_text-in-Rows.ensures.read_again in
    let exact : c.from-in-Rows.result ≡ reply_text c.args.reply.now = rw c.in-Rows.is lines in
    record {
      exact = exact;
      reads_back = read_again c.args.reply.now c.from-in-Rows.result exact;
      texts = rw c.in-Rows.is (tells_found rows c.from-in-Rows.result lines told);
      never_empty = never_empty c.args.reply.now c.from-in-Rows.result exact;
    }

pub returns-in_ok-bar_text-in-Bar : goal.returns-in_ok-bar_text-in-Bar
returns-in_ok-bar_text-in-Bar c =
    let rows = c.in-Bar.rows in
    let lines : c.from-in-Bar.result ≡ reply_text (Bar rows) =
    c.from-in-Bar.ensures ∙ c.in_ok-bar_text-in-Bar.ensures.exact
    ∙ ap (λ l. reply_text (Bar l)) c.as_slice-in-Bar.ensures in
    let told = subst (All IsOfferedAgain) c.as_slice-in-Bar.ensures c.in_ok-bar_text-in-Bar.ensures.read_again in
    let exact : c.from-in-Bar.result ≡ reply_text c.args.reply.now = rw c.in-Bar.is lines in
    record {
      exact = exact;
      reads_back = read_again c.args.reply.now c.from-in-Bar.result exact;
      texts = rw c.in-Bar.is (tells_offered rows c.from-in-Bar.result lines told);
      never_empty = never_empty c.args.reply.now c.from-in-Bar.result exact;
    }

pub returns-in_ok-place_text-in-Place : goal.returns-in_ok-place_text-in-Place
returns-in_ok-place_text-in-Place c =
    let text = c.in-Place.text in
    let lines : c.from-in-Place.result ≡ reply_text (Place text) =
    alone (reply_fields (Place text)) c.from-in-Place.result
    (c.from-in-Place.ensures ∙ c.in_ok-place_text-in-Place.ensures.exact) in
    let exact : c.from-in-Place.result ≡ reply_text c.args.reply.now = rw c.in-Place.is lines in
    record {
      exact = exact;
      reads_back = read_again c.args.reply.now c.from-in-Place.result exact;
      texts = rw c.in-Place.is
          (tells_place text c.from-in-Place.result lines c.in_ok-place_text-in-Place.ensures.read_again);
      never_empty = never_empty c.args.reply.now c.from-in-Place.result exact;
    }

pub returns-in_ok-fill_text-in-Fill : goal.returns-in_ok-fill_text-in-Fill
returns-in_ok-fill_text-in-Fill c =
    let group = c.in-Fill.group in
    let total = c.in-Fill.total in
    let lines : c.from-in-Fill.result ≡ reply_text (Fill group total) =
    alone (reply_fields (Fill group total)) c.from-in-Fill.result
    (c.from-in-Fill.ensures ∙ c.in_ok-fill_text-in-Fill.ensures.exact) in
    let exact : c.from-in-Fill.result ≡ reply_text c.args.reply.now = rw c.in-Fill.is lines in
    record {
      exact = exact;
      reads_back = read_again c.args.reply.now c.from-in-Fill.result exact;
      texts = rw c.in-Fill.is
          (tells_fill group total c.from-in-Fill.result lines c.in_ok-fill_text-in-Fill.ensures.read_again);
      never_empty = never_empty c.args.reply.now c.from-in-Fill.result exact;
    }
