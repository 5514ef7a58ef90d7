-- A table of the book: no AUTOINCREMENT, no CHECK, no default.
use Rattle.std.specs.Prelude.{ℕ, false, List, [], Option}
use Rattle.sqlite_value.specs.declared.keys.Order.{Order}
use Rattle.sqlite.specs.Table.{Table}
use Rattle.sqlite_schema.specs.declared.schema.Column.{Column}
use Rattle.sqlite_schema.specs.declared.schema.Reference.{Reference}

pub record Plain : Type 0 where
  pub name : List ℕ
  pub tree : ℕ
  pub columns : List Column
  pub key : Option ℕ
  pub primary : List ℕ
  pub uniques : List (List ℕ)
  pub orders : List Order
  pub references : List Reference

abbrev pub table_of : Plain → Table
table_of p = record {
  name = p.name;
  tree = p.tree;
  columns = p.columns;
  key = p.key;
  primary = p.primary;
  uniques = p.uniques;
  orders = p.orders;
  checks = [];
  references = p.references;
  computed = [];
  stamps = record { places = []; terms = []; formats = [] };
  is_counted = false;
}
