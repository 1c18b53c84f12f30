-- How much is in a value: what is counted of it, and how deep its lists lie, is less. For private
-- clauses.
use Rattle.std.specs.Prelude.{ℕ, ◌+◌, length}
use Rattle.serde_json.specs.Data.{Data, Items, Members, array, boolean, item, member, no_items}
use Rattle.serde_json.specs.Data.{no_members, null, number, object, string}

abbrev mutual
  -- each value counts one, and so does each byte of a text
  pub weight : Data → ℕ
  weight null = 1
  weight (boolean b) = 1
  weight (number n) = 1
  weight (string s) = 1 + length s
  weight (array items) = 1 + items_weight items
  weight (object fields) = 1 + members_weight fields

  pub items_weight : Items → ℕ
  items_weight no_items = 0
  items_weight (item value more) = weight value + items_weight more

  pub members_weight : Members → ℕ
  members_weight no_members = 0
  members_weight (member key value more) = weight value + members_weight more
