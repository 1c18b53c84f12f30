use Rattle.std.proofs.Common.{◌∙◌, List, ap, false, sym, ℕ}
use Rattle.pl_base.specs.Fold.{folded}
use Rattle.pl_base.specs.Rows.{Kept, store_of}
use Rattle.pl_base.specs.Tags.{tag_text}
use Rattle.pl_base.proofs.PageLaws.{id_at, title_at, url_at}
use Rattle.pl_words.specs.Pieces.{in_address, searched}
use Rattle.pl_conditions.proofs.AskedLaws.{in_searched}
use Rattle.pl_conditions.proofs.conditions.words.page_texts.Goals as goal

pub returns : goal.returns
returns g c p at =
    let kept : Kept = g.R.Rows.kept c.args.rows.now in
    record {
      title =
          c.in_ok-title-2.ensures ∙ ap folded (c.as_str.ensures ∙ title_at kept c.args.page p c.in_ok-title.title at
          c.in_ok-title.ensures.title);
      address =
          λ word.
          in_searched c.args.url.now c.prefix.result.now c.in_ok-address.address c.prefix.ensures.value
          (c.in_ok-address.ensures ∙ ap (λ (u : List ℕ). searched u c.prefix.result.now) c.text.ensures.value) word
          ∙ ap (in_address false word) (url_at kept c.args.page p c.args.url.now at c.requires.url);
      tags =
          c.in_ok-tags-2.ensures
          ∙ ap folded (c.as_str-2.ensures ∙ c.in_ok-tags.ensures
          ∙ ap (tag_text (store_of kept)) (sym (id_at kept c.args.page p at)));
    }
