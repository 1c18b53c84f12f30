-- What the lines of a file make.
use Rattle.std.proofs.Common.{◌≡◌, ◌∙◌, ◌*◌, ◌==◌, ℕ, zero, suc, true, not, List, [], ◌∷◌}
use Rattle.std.proofs.Common.{◌++◌, Some, None, Option, ap, append-nil, append_assoc, arith, drop, eqb-true, length, map}
use Rattle.std.proofs.Common.{refl, replicate, sym}
use Rattle.std.specs.Prelude.{codes, is_some, unwrap_or}
use Rattle.std.proofs.lemmas.Bool.{true≢false}
use Rattle.pl_base.specs.declared.date.Micros.{Micros}
use Rattle.pl_base.specs.declared.item.ItemKind.TheVariants.{Bookmark, Folder, Separator}
use Rattle.pl_base.specs.Address.{canon}
use Rattle.pl_base.specs.Tags.{comma_joined}
use Rattle.pl_base.proofs.ListLaws.{regroup_four, regroup_seven}
use Rattle.pl_nbread.specs.declared.tree.Node.{Node}
use Rattle.pl_nbread.specs.BookmarkTree as read
use Rattle.pl_nbread.specs.BookmarkTree.{Made, Child, bookmark, bookmark_if, folder, folder_unless, inside, micros}
use Rattle.pl_nbread.specs.BookmarkTree.{root_at, separator, title_in, url}
use Rattle.pl_nbread.specs.Building.{made_within, title_ahead}
use Rattle.pl_nbread.specs.Listed.{IsOwn}
use Rattle.pl_nbread.specs.Parts.{Part, ListStart, ListEnd, Rule, TitleEnd, Other, part_of}
use Rattle.pl_nbread.specs.References.{decoded}
use Rattle.pl_nbread.specs.Tokens.{Attribute, Read, Open, Token, attributes, is_less, tokens, with_attribute}
use Rattle.pl_nbread.specs.WellFormed.{is_date}
use Rattle.pl_nbread.proofs.NodeLaws.{IsFormed}
use Rattle.pl_nbread.proofs.TokenLaws.{attributes-end, tokens-step}
use Rattle.pl_nbwrite.specs.BookmarkText.{attribute, dates, escaped, heading, line, link, list_end, list_start, seconds}
use Rattle.pl_nbwrite.specs.BookmarkText.{tags_text, title_text}
use Rattle.pl_nbwrite.specs.Plain.{IsKept}
use Rattle.pl_nbwrite.proofs.DecodedBack.{calm-escaped, calm-title, decoded-escaped, decoded-title, trimmed-title}
use Rattle.pl_nbwrite.proofs.TokenSteps.{Place, ahead_run, attribute-step, lacks, named, open-tag, parts_of, skip, skip_run}
use Rattle.pl_nbwrite.proofs.ValuesBack.{date_back, no_less, no_quote, no_quote_date, seconds_back, tags_back, tags_said}

-- ---- texts, grouped from the back

seven : (a b c d e f g x : List ℕ)
    → ((((((a ++ b) ++ c) ++ d) ++ e) ++ f) ++ g) ++ x ≡ a ++ (b ++ (c ++ (d ++ (e ++ (f ++ (g ++ x))))))
seven a b c d e f g x = simp append_assoc

-- ---- attributes

abbrev read_of : List Attribute → List ℕ → Option (Read (List Attribute))
read_of all rest = Some (record { what = all; behind = rest })

abbrev pub dates_said : Micros → Micros → List Attribute → List Attribute
dates_said added modified more =
    named (codes "ADD_DATE") (seconds added) ∷ named (codes "LAST_MODIFIED") (seconds modified) ∷ more

dates-read : (added modified : Micros) (all : List Attribute) (bytes rest : List ℕ) → is_date added ≡ true
    → is_date modified ≡ true → attributes bytes ≡ read_of all rest
    → attributes (dates added modified ++ bytes) ≡ read_of (dates_said added modified all) rest
dates-read added modified all bytes rest a m behind =
    let one : List ℕ = attribute (codes "ADD_DATE") (seconds added) in
    let two : List ℕ = attribute (codes "LAST_MODIFIED") (seconds modified) in
    ap attributes (append_assoc one two bytes)
    ∙ attribute-step 65 (codes "DD_DATE") (seconds added) (two ++ bytes) refl refl refl (no_quote_date added a)
    ∙ ap (with_attribute (named (codes "ADD_DATE") (seconds added)))
    (attribute-step 76 (codes "AST_MODIFIED") (seconds modified) bytes refl refl refl (no_quote_date modified m)
    ∙ ap (with_attribute (named (codes "LAST_MODIFIED") (seconds modified))) behind)

tags-read : (tags : List (List ℕ)) (rest : List ℕ)
    → attributes (tags_text tags ++ 62 ∷ rest) ≡ read_of (tags_said tags) rest
tags-read [] rest = attributes-end 62 rest refl
tags-read (tag ∷ tags) rest =
    let value : List ℕ = escaped (comma_joined (tag ∷ tags)) in
    attribute-step 84 (codes "AGS") value (62 ∷ rest) refl refl refl
    (no_quote value (calm-escaped (comma_joined (tag ∷ tags))))
    ∙ ap (with_attribute (named (codes "TAGS") value)) (attributes-end 62 rest refl)

abbrev pub link_said : Node → List Attribute
link_said node =
    named (codes "HREF") (escaped (unwrap_or node.url [])) ∷ dates_said node.added node.modified (tags_said node.tags)

-- ---- tags without attributes

dt : (bytes : List ℕ) → parts_of (codes "<DT>" ++ bytes) ≡ TitleEnd ∷ parts_of bytes
dt bytes = ap (map part_of) (tokens-step 60 (codes "DT>" ++ bytes))

link_end : (bytes : List ℕ) → parts_of (codes "</A>" ++ bytes) ≡ TitleEnd ∷ parts_of bytes
link_end bytes = ap (map part_of) (tokens-step 60 (codes "/A>" ++ bytes))

heading_end : (bytes : List ℕ) → parts_of (codes "</H3>" ++ bytes) ≡ TitleEnd ∷ parts_of bytes
heading_end bytes = ap (map part_of) (tokens-step 60 (codes "/H3>" ++ bytes))

hr : (bytes : List ℕ) → parts_of (codes "<HR>" ++ bytes) ≡ Rule ∷ parts_of bytes
hr bytes = ap (map part_of) (tokens-step 60 (codes "HR>" ++ bytes))

paragraph : (bytes : List ℕ) → parts_of (codes "<p>" ++ bytes) ≡ Other ∷ parts_of bytes
paragraph bytes = ap (map part_of) (tokens-step 60 (codes "p>" ++ bytes))

pub dl : (bytes : List ℕ) → parts_of (codes "<DL><p>" ++ bytes) ≡ ListStart ∷ Other ∷ parts_of bytes
dl bytes =
    ap (map part_of) (tokens-step 60 (codes "DL><p>" ++ bytes))
    ∙ ap (λ (parts : List Part). ListStart ∷ parts) (paragraph bytes)

dl_end : (bytes : List ℕ) → parts_of (codes "</DL><p>" ++ bytes) ≡ ListEnd ∷ Other ∷ parts_of bytes
dl_end bytes =
    ap (map part_of) (tokens-step 60 (codes "/DL><p>" ++ bytes))
    ∙ ap (λ (parts : List Part). ListEnd ∷ parts) (paragraph bytes)

spaces_only : (n : ℕ) → lacks is_less (replicate n 32) ≡ true
spaces_only zero = refl
spaces_only (suc n) = spaces_only n

-- ---- titles

title_back : (title end bytes : List ℕ) → parts_of (end ++ bytes) ≡ TitleEnd ∷ parts_of bytes
    → title_in (title_ahead (parts_of (title_text title ++ (end ++ bytes)))) ≡ title
title_back title end bytes closes =
    ap title_in
    (ahead_run (title_text title) (end ++ bytes) (no_less (title_text title) (calm-title title))
    ∙ ap (λ (parts : List Part). title_text title ++ title_ahead parts) closes
    ∙ append-nil (title_text title))
    ∙ ap decoded (trimmed-title title) ∙ decoded-title title

module _ (here : Place) (outer : List Place) (pending : Option Place) where
  abbrev made : List Part → List Made
  made parts = made_within here outer pending parts

  behind_title : (title end rest : List ℕ)
      → ((bytes : List ℕ) → parts_of (end ++ bytes) ≡ TitleEnd ∷ parts_of bytes)
      → made (parts_of (title_text title ++ (end ++ 10 ∷ rest))) ≡ made (parts_of rest)
  behind_title title end rest closes =
      skip_run here outer pending (title_text title) (end ++ 10 ∷ rest) (no_less (title_text title) (calm-title title))
      ∙ ap made (closes (10 ∷ rest))
      ∙ skip here outer pending 10 rest refl

  -- the spaces in front of a line, and its end
  within_line : (level : ℕ) (own rest : List ℕ)
      → made (parts_of (line level own ++ rest)) ≡ made (parts_of (own ++ 10 ∷ rest))
  within_line level own rest =
      ap (λ (l : List ℕ). made (parts_of l)) (regroup_four (replicate (4 * level) 32) own (codes "\n") rest)
      ∙ skip_run here outer pending (replicate (4 * level) 32) (own ++ 10 ∷ rest) (spaces_only (4 * level))

-- ---- the nodes that are made

pub nil_of : {A : Type 0} → (l : List A) → (length l == 0) ≡ true → l ≡ []
nil_of [] none = refl
nil_of (x ∷ l) none =
    let short : suc (length l) ≡ 0 = eqb-true (suc (length l)) 0 none in
    absurd (omega arith)

pub none_of : {A : Type 0} → (o : Option A) → not (is_some o) ≡ true → o ≡ None
none_of None none = refl
none_of (Some x) none = absurd (true≢false (sym none))

-- what is read of the line of a node is that node
module _ (here : Place) (node : Node) (own : IsFormed node) (kept : IsKept node) (depth : node.depth ≡ here.depth) where
  link_added : read.added (link_said node) ≡ node.added
  link_added =
      ap (λ (s : Option ℕ). micros (unwrap_or s 0)) (seconds_back node.added own.added)
      ∙ date_back node.added own.added kept.added

  link_modified : read.modified (link_said node) ≡ node.modified
  link_modified =
      ap (λ (s : Option ℕ). micros (unwrap_or s (read.added_seconds (link_said node))))
      (seconds_back node.modified own.modified)
      ∙ date_back node.modified own.modified kept.modified

  bookmark_back : (address : List ℕ) → node.kind ≡ Bookmark → node.url ≡ Some address
      → bookmark here address (link_said node) node.title ≡ node
  bookmark_back address kind is =
      λ i. record {
        depth = sym depth i;
        kind = sym kind i;
        url = sym is i;
        title = node.title;
        added = link_added i;
        modified = link_modified i;
        tags = tags_back node.tags own.named own.once i;
      }

  pub link_back : (address : Option (List ℕ)) → node.kind ≡ Bookmark → node.url ≡ address → is_some address ≡ true
      → IsOwn address
      → bookmark_if (url (link_said node)) here (link_said node) node.title ≡ Child here.root node
  link_back None kind is some names = absurd (true≢false (sym some))
  link_back (Some address) kind is some names =
      ap (λ (o : Option (List ℕ)). bookmark_if o here (link_said node) node.title)
      (ap canon (decoded-escaped (unwrap_or node.url [])) ∙ ap (λ (o : Option (List ℕ)). canon (unwrap_or o [])) is
      ∙ names.1)
      ∙ ap (Child here.root) (bookmark_back address kind is)

  folder_added : read.added (dates_said node.added node.modified []) ≡ node.added
  folder_added = link_added

  folder_modified : read.modified (dates_said node.added node.modified []) ≡ node.modified
  folder_modified =
      ap (λ (s : Option ℕ). micros (unwrap_or s (read.added_seconds (dates_said node.added node.modified []))))
      (seconds_back node.modified own.modified)
      ∙ date_back node.modified own.modified kept.modified

  pub folder_back : node.kind ≡ Folder → node.url ≡ None → node.tags ≡ []
      → folder here (dates_said node.added node.modified []) node.title ≡ node
  folder_back kind is none =
      λ i. record {
        depth = sym depth i;
        kind = sym kind i;
        url = sym is i;
        title = node.title;
        added = folder_added i;
        modified = folder_modified i;
        tags = sym none i;
      }

pub separator_back : (here : Place) (node : Node) → node.depth ≡ here.depth → node.kind ≡ Separator → node.url ≡ None
    → node.title ≡ [] → node.tags ≡ [] → node.added.0 ≡ 0 → node.modified.0 ≡ 0 → separator here ≡ node
separator_back here node depth kind is title tags added modified =
    λ i. record {
      depth = sym depth i;
      kind = sym kind i;
      url = sym is i;
      title = sym title i;
      added = record { 0 = sym added i };
      modified = record { 0 = sym modified i };
      tags = sym tags i;
    }

-- ---- the lines

module _ (here : Place) (outer : List Place) where
  -- a bookmark
  pub link_made : (level : ℕ) (node : Node) (rest : List ℕ) → is_date node.added ≡ true → is_date node.modified ≡ true
      → made_within here outer None (parts_of (line level (link node) ++ rest))
      ≡ bookmark_if (url (link_said node)) here (link_said node) node.title ∷ made_within here outer None (parts_of rest)
  link_made level node rest added modified =
      let value : List ℕ = escaped (unwrap_or node.url []) in
      let href : List ℕ = attribute (codes "HREF") value in
      let behind : List ℕ = title_text node.title ++ (codes "</A>" ++ 10 ∷ rest) in
      let bytes : List ℕ = href ++ (dates node.added node.modified ++ (tags_text node.tags ++ 62 ∷ behind)) in
      let said =
      attribute-step 72 (codes "REF") value (dates node.added node.modified ++ (tags_text node.tags ++ 62 ∷ behind)) refl
      refl refl (no_quote value (calm-escaped (unwrap_or node.url [])))
      ∙ ap (with_attribute (named (codes "HREF") value))
      (dates-read node.added node.modified (tags_said node.tags) (tags_text node.tags ++ 62 ∷ behind) behind added modified
      (tags-read node.tags behind)) in
      let tag : tokens (codes "<A" ++ bytes) ≡ Open (codes "A") (link_said node) ∷ tokens behind =
      open-tag 65 [] 32 (drop 1 bytes) (link_said node) behind refl refl refl refl refl said in
      within_line here outer None level (link node) rest
      ∙ ap (λ (l : List ℕ). made_within here outer None (parts_of l))
      (seven (codes "<DT><A") href (dates node.added node.modified) (tags_text node.tags) (codes ">")
      (title_text node.title) (codes "</A>") (10 ∷ rest))
      ∙ ap (made_within here outer None) (dt (codes "<A" ++ bytes))
      ∙ ap (λ (all : List Token). made_within here outer None (map part_of all)) tag
      ∙ ap (λ (t : List ℕ). bookmark_if (url (link_said node)) here (link_said node) t
      ∷ made_within here outer None (parts_of behind))
      (title_back node.title (codes "</A>") (10 ∷ rest) (link_end (10 ∷ rest)))
      ∙ ap (λ (more : List Made). bookmark_if (url (link_said node)) here (link_said node) node.title ∷ more)
      (behind_title here outer None node.title (codes "</A>") rest link_end)

  -- a separator
  pub rule_made : (level : ℕ) (rest : List ℕ)
      → made_within here outer None (parts_of (line level (codes "<HR>") ++ rest))
      ≡ Child here.root (separator here) ∷ made_within here outer None (parts_of rest)
  rule_made level rest =
      within_line here outer None level (codes "<HR>") rest
      ∙ ap (made_within here outer None) (hr (10 ∷ rest))
      ∙ ap (λ (more : List Made). Child here.root (separator here) ∷ more) (skip here outer None 10 rest refl)

  -- the start of a list that is awaited
  start_made : (awaited : Place) (level : ℕ) (rest : List ℕ)
      → made_within here outer (Some awaited) (parts_of (list_start level ++ rest))
      ≡ made_within awaited (here ∷ outer) None (parts_of rest)
  start_made awaited level rest =
      within_line here outer (Some awaited) level (codes "<DL><p>") rest
      ∙ ap (made_within here outer (Some awaited)) (dl (10 ∷ rest))
      ∙ skip awaited (here ∷ outer) None 10 rest refl

  -- a heading and the start of its list
  pub heading_made : (level : ℕ) (added modified : Micros) (more : List ℕ) (all : List Attribute) (title rest : List ℕ)
      → is_date added ≡ true → is_date modified ≡ true
      → ((bytes : List ℕ) → attributes (more ++ 62 ∷ bytes) ≡ Some (record { what = all; behind = bytes }))
      → made_within here outer None
      (parts_of ((line level (heading added modified more title) ++ list_start level) ++ rest))
      ≡ folder_unless (root_at here (dates_said added modified all)) here (dates_said added modified all) title
      ++ made_within (inside here (dates_said added modified all)) (here ∷ outer) None (parts_of rest)
  heading_made level added modified more all title rest a m read_more =
      let start : List ℕ = list_start level ++ rest in
      let said : List Attribute = dates_said added modified all in
      let behind : List ℕ = title_text title ++ (codes "</H3>" ++ 10 ∷ start) in
      let bytes : List ℕ = dates added modified ++ (more ++ 62 ∷ behind) in
      let tag : tokens (codes "<H3" ++ bytes) ≡ Open (codes "H3") said ∷ tokens behind =
      open-tag 72 (codes "3") 32 (drop 1 bytes) said behind refl refl refl refl refl
      (dates-read added modified all (more ++ 62 ∷ behind) behind a m (read_more behind)) in
      let makes : List ℕ → List Made = λ t. folder_unless (root_at here said) here said t in
      ap (λ (l : List ℕ). made_within here outer None (parts_of l))
      (append_assoc (line level (heading added modified more title)) (list_start level) rest)
      ∙ within_line here outer None level (heading added modified more title) start
      ∙ ap (λ (l : List ℕ). made_within here outer None (parts_of l))
      (regroup_seven (codes "<DT><H3") (dates added modified) more (codes ">") (title_text title) (codes "</H3>")
      (10 ∷ start))
      ∙ ap (made_within here outer None) (dt (codes "<H3" ++ bytes))
      ∙ ap (λ (all : List Token). made_within here outer None (map part_of all)) tag
      ∙ ap (λ (t : List ℕ). makes t ++ made_within here outer (Some (inside here said)) (parts_of behind))
      (title_back title (codes "</H3>") (10 ∷ start) (heading_end (10 ∷ start)))
      ∙ ap (λ (more : List Made). makes title ++ more)
      (behind_title here outer (Some (inside here said)) title (codes "</H3>") start heading_end
      ∙ start_made (inside here said) level rest)

-- the end of a list
pub end_made : (here around : Place) (outer : List Place) (level : ℕ) (rest : List ℕ)
    → made_within here (around ∷ outer) None (parts_of (list_end level ++ rest))
    ≡ made_within around outer None (parts_of rest)
end_made here around outer level rest =
    within_line here (around ∷ outer) None level (codes "</DL><p>") rest
    ∙ ap (made_within here (around ∷ outer) None) (dl_end (10 ∷ rest))
    ∙ skip around outer None 10 rest refl
