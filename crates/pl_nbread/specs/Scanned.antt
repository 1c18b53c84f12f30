-- What the reader sees of a text, by its definitions.
use Rattle.std.specs.Prelude.{◌≡◌, ⊤, ℕ, List, codes, Option, Some, None, if◌then◌else◌}
use Rattle.std.specs.Borrow.{Bor}
use Rattle.std.specs.Option.{option_map}
use Rattle.pl_nbread.specs.declared.attributes.Attributes.{Attributes}
use Rattle.pl_nbread.specs.declared.part.Part.{Part}
use Rattle.pl_nbread.specs.declared.part.Part.TheVariants as seen
use Rattle.pl_nbread.specs.BookmarkTree.{raw}
use Rattle.pl_nbread.specs.Parts as parts
use Rattle.pl_nbread.specs.Parts.{is_name, part_of}
use Rattle.pl_nbread.specs.Tokens.{Attribute, Read, Token, attributes}

-- a text that is borrowed, if there is one
abbrev pub now : Option (Bor (List ℕ)) → Option (List ℕ)
now text = option_map (λ (t : Bor (List ℕ)). t.now) text

-- the attributes that say something
pub record Tells (a : Attributes) (all : List Attribute) : Type 0 where
  pub href : now a.href ≡ raw (codes "href") all
  pub add_date : now a.add_date ≡ raw (codes "add_date") all
  pub last_modified : now a.last_modified ≡ raw (codes "last_modified") all
  pub tags : now a.tags ≡ raw (codes "tags") all
  pub toolbar : now a.toolbar ≡ raw (codes "personal_toolbar_folder") all
  pub unfiled : now a.unfiled ≡ raw (codes "unfiled_bookmarks_folder") all
  pub mobile : now a.mobile ≡ raw (codes "mobile_bookmarks_folder") all

-- what the first attribute with the known name says, with one attribute more
abbrev pub first_said : Option (List ℕ) → List ℕ → List ℕ → List ℕ → Option (List ℕ)
first_said None known name value = if is_name known name then Some value else None
first_said (Some said) known name value = Some said

-- attributes that were found, and what stands behind them
abbrev pub Finds : Option (Read (List Attribute)) → Option (Attributes × Bor (List ℕ)) → Type 0
Finds None None = ⊤
Finds (Some read) (Some found) = Tells found.0 read.what × (found.1.now ≡ read.behind)
Finds None (Some found) = ⊥
Finds (Some read) None = ⊥

abbrev pub FindsAttributes : List ℕ → Option (Attributes × Bor (List ℕ)) → Type 0
FindsAttributes text found = Finds (attributes text) found

-- a part that was seen
abbrev pub Sees : parts.Part → Part → Type 0
Sees (parts.Heading all) (seen.Heading a) = Tells a all
Sees (parts.Link all) (seen.Link a) = Tells a all
Sees parts.ListStart seen.ListStart = ⊤
Sees parts.ListEnd seen.ListEnd = ⊤
Sees parts.Rule seen.Rule = ⊤
Sees parts.TitleEnd seen.TitleEnd = ⊤
Sees (parts.Words text) (seen.Text t) = t.now ≡ text
Sees parts.Other seen.Other = ⊤
Sees this part = ⊥

-- what was seen at the front of a text; what is passed over says nothing
abbrev pub SeesFront : Option Token → Part → Type 0
SeesFront None part = Sees parts.Other part
SeesFront (Some token) part = Sees (part_of token) part

-- what was seen at the front of a text, and what stands behind it
pub record IsSeen (read : Read (Option Token)) (seen : Part × Bor (List ℕ)) : Type 0 where
  pub part : SeesFront read.what seen.0
  pub behind : seen.1.now ≡ read.behind
