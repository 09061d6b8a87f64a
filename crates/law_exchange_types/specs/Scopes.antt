-- Scopes with other numbers of modules.
use Rattle.std.specs.Prelude.{ℕ, map, List}
use Rattle.check_scope.specs.declared.known.Known.{Known}
use Rattle.check_scope.specs.declared.known.Known.TheVariants.{Later, Ahead, Begun, Headed, Declared}
use Rattle.check_scope.specs.declared.scope.Block.{Block}
use Rattle.check_scope.specs.declared.scope.OpenedRecord.{OpenedRecord}
use Rattle.check_scope.specs.declared.scope.Scope.{Scope}
use Rattle.check_scope.specs.Scopes.{State}
use Rattle.law_exchange_types.specs.Pieces.{map_ok, moved_entries}
use Rattle.def_exchange.specs.Moved.{Exchange, moved_type, moved_types, moved_meaning, moved_table}

module _ (x : Exchange) where
  abbrev pub moved_known : {T : Type 0} → Known T → Known T
  moved_known Later = Later
  moved_known Ahead = Ahead
  moved_known Begun = Begun
  moved_known (Headed m) = Headed (map_ok (moved_meaning x) m)
  moved_known (Declared o m) = Declared o (map_ok (moved_meaning x) m)

  abbrev pub moved_names : {T : Type 0} → List (List ℕ × Known T) → List (List ℕ × Known T)
  moved_names ns = moved_entries moved_known ns

  abbrev pub moved_block : {T : Type 0} → Block T → Block T
  moved_block b = record { names = moved_names b.names; seen = b.seen }

  abbrev pub moved_opened : OpenedRecord → OpenedRecord
  moved_opened r = record { number = r.number; «of» = moved_type x r.«of» }

  abbrev pub moved_scope : {T : Type 0} → Scope T → Scope T
  moved_scope s = record {
    tables = map (moved_table x) s.tables;
    types = moved_types x s.types;
    variables = map (moved_type x) s.variables;
    procedures = map (moved_type x) s.procedures;
    level = s.level;
    own = moved_names s.own;
    outer = map moved_block s.outer;
    withs = map moved_opened s.withs;
  }

  -- a scope, and what has no number of a module
  abbrev pub moved_state : {A T : Type 0} → State A T → State A T
  moved_state st = (moved_scope st.0, st.1)

  abbrev pub moved_state_of : {A T : Type 0} → (A → A) → State A T → State A T
  moved_state_of f st = (moved_scope st.0, map_ok f st.1)
