-- What a step of the writer takes of what is still to come.
use Rattle.std.proofs.Common.{◌≡◌, ◌∙◌, ◌≤◌, ◌+◌, ◌++◌, ℕ, suc, Bool, true, false, List, [], ◌∷◌, ap, append_assoc}
use Rattle.std.proofs.Common.{arith, refl, sym}
use Rattle.std.specs.Prelude.{codes, drop, nat_lt, reverse, take}
use Rattle.std.proofs.lemmas.List.{reverse-append}
use Rattle.pl_base.specs.declared.item.ItemKind.{ItemKind}
use Rattle.pl_base.specs.declared.item.ItemKind.TheVariants.{Bookmark, Folder, Separator}
use Rattle.pl_nbread.specs.declared.tree.Node.{Node}
use Rattle.pl_backup.specs.BackupText.{Placed, bookmark, count_below, items, put_front, separator, values}
use Rattle.pl_backup.specs.BackupText as spec
use Rattle.pl_backup.specs.Written.{IsBelow, IsUnder, Starts, bookmark_text, children_start, folder_end}
use Rattle.pl_backup.specs.Written.{separator_text, to_come, within}
use Rattle.pl_backup.proofs.NodeTexts.{bookmark_is, folder_is, separator_is}
use Rattle.serde_json.specs.Data.{Data}
use Rattle.serde_json.specs.Written.{comma_if, compact_text, items_text}

-- ---- ends of lists

-- the end of a folder's list, where no value stands below it
ended : (later : Bool) (f : Node) (outer : List Node) (left : List Placed) (depth : ℕ) → Starts depth left
    → depth ≤ f.depth → within later (f ∷ outer) left ≡ codes "]" ++ (folder_end f ++ within true outer left)
ended later f outer [] depth starts up = refl
ended later f outer (v ∷ left) depth starts up =
    let no : nat_lt f.depth v.depth ≡ false = grind (arith, starts, up) in rw no refl

pub one_ended : (later : Bool) (around rest : List Node) (f : Node) (left : List Placed) (depth : ℕ)
    → around ≡ rest ++ f ∷ [] → Starts depth left → depth ≤ f.depth
    → to_come later around left ≡ codes "]" ++ (folder_end f ++ to_come true rest left)
one_ended later around rest f left depth is starts up =
    ap (λ (x : List Node). within later x left) (ap reverse is ∙ reverse-append rest (f ∷ []))
    ∙ ended later f (reverse rest) left depth starts up

-- ---- nodes

-- a value in the innermost list
put : (later : Bool) (outer : List Node) (v : Placed) (left : List Placed) → IsUnder v.depth outer
    → within later outer (v ∷ left) ≡ comma_if later ++ (compact_text v.value ++ within true outer left)
put later [] v left below = refl
put later (f ∷ outer) v left below =
    let yes : nat_lt f.depth v.depth ≡ true = grind (arith, below) in
    let many : ℕ = count_below f.depth left in
    let inner : List ℕ = items_text true (items (take many left)) in
    let more : 1 + many ≡ suc many = omega arith in
    rw (yes, more)
    (append_assoc (comma_if later) (compact_text v.value ++ inner) _
    ∙ ap (λ (x : List ℕ). comma_if later ++ x) (append_assoc (compact_text v.value) inner _))

-- one without children, whose text is told
told : (later : Bool) (outer : List Node) (v : Placed) (left : List Placed) (text : List ℕ) → IsUnder v.depth outer
    → compact_text v.value ≡ text
    → within later outer (v ∷ left) ≡ comma_if later ++ (text ++ within true outer left)
told later outer v left text below is =
    put later outer v left below ∙ ap (λ (x : List ℕ). comma_if later ++ (x ++ within true outer left)) is

-- the value of a node
abbrev placed : Node → Data → Placed
placed node value = record { depth = node.depth; value = value }

pub put_bookmark : (later : Bool) (around : List Node) (node : Node) (nodes : List Node) → node.kind ≡ Bookmark
    → IsBelow node.depth around
    → to_come later around (values (node ∷ nodes))
    ≡ comma_if later ++ (bookmark_text node ++ to_come true around (values nodes))
put_bookmark later around node nodes is below =
    ap (λ (k : ItemKind). to_come later around (put_front k node (values nodes))) is
    ∙ told later (reverse around) (placed node (bookmark node)) (values nodes) (bookmark_text node) below
    (bookmark_is node)

pub put_separator : (later : Bool) (around : List Node) (node : Node) (nodes : List Node) → node.kind ≡ Separator
    → IsBelow node.depth around
    → to_come later around (values (node ∷ nodes))
    ≡ comma_if later ++ (separator_text node ++ to_come true around (values nodes))
put_separator later around node nodes is below =
    ap (λ (k : ItemKind). to_come later around (put_front k node (values nodes))) is
    ∙ told later (reverse around) (placed node (separator node)) (values nodes) (separator_text node) below
    (separator_is node)

-- a folder, whose list is the innermost one then
put_folder : (later : Bool) (outer : List Node) (node : Node) (left : List Placed) → IsUnder node.depth outer
    → within later outer (put_front Folder node left)
    ≡ comma_if later ++ (children_start ++ within false (node ∷ outer) left)
put_folder later outer node left below =
    let many : ℕ = count_below node.depth left in
    let inner : List ℕ = items_text false (items (take many left)) in
    let behind : List ℕ = within true outer (drop many left) in
    told later outer (placed node (spec.folder node (items (take many left)))) (drop many left)
    (children_start ++ (inner ++ folder_end node)) below (folder_is node (items (take many left)))
    ∙ ap (λ (x : List ℕ). comma_if later ++ (children_start ++ x)) (append_assoc inner (folder_end node) behind)

pub begin_folder : (later : Bool) (around more : List Node) (node : Node) (nodes : List Node) → node.kind ≡ Folder
    → more ≡ around ++ node ∷ [] → IsBelow node.depth around
    → to_come later around (values (node ∷ nodes))
    ≡ comma_if later ++ (children_start ++ to_come false more (values nodes))
begin_folder later around more node nodes is pushed below =
    ap (λ (k : ItemKind). to_come later around (put_front k node (values nodes))) is
    ∙ put_folder later (reverse around) node (values nodes) below
    ∙ ap (λ (x : List Node). comma_if later ++ (children_start ++ within false x (values nodes)))
    (sym (ap reverse pushed ∙ reverse-append around (node ∷ [])))
