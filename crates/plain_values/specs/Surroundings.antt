-- What the definition's words mean around a part of a program.
use Rattle.std.specs.Prelude.{◌≡◌, ℕ, ℤ, List, [], ◌∷◌, ◌++◌, map, Option}
use Rattle.std.specs.Option.{option_map}
use Rattle.typed_tree.specs.declared.computed.Argument.{Argument, fold-Argument}
use Rattle.typed_tree.specs.declared.computed.Call.{Call}
use Rattle.typed_tree.specs.declared.computed.Component.{Component, fold-Component}
use Rattle.typed_tree.specs.declared.computed.Link.{Link, fold-Link}
use Rattle.typed_tree.specs.declared.computed.Place.{Place}
use Rattle.typed_tree.specs.declared.computed.TypedExpr.{TypedExpr}
use Rattle.typed_tree.specs.declared.statement.TypedStmt.{TypedStmt}
use Rattle.def_meaning.specs.Store.{Location}
use Rattle.def_meaning.specs.Answer.{State as Meant, Answer as Given}
use Rattle.def_meaning.specs.Outcome.{Outcome as Course}
use Rattle.def_meaning.specs.Environment.{Modules, Entry}
use Rattle.def_meaning.specs.Environment.{Environment as Setting, Named as Name, Callee as Asked, Passed as Sent, At, Elements, Number, Variable, Array, Text}
use Rattle.def_meaning.specs.Expressions.{Asks, Gives, Reaches, Continues, one_by_one, all_given, argument_layer, call_layer, component_layer, link_layer, expr_layer, place_layer, value, locate, call_value}
use Rattle.def_meaning.specs.Statements.{does, in_turn}
use Rattle.def_meaning.specs.Calls.{calling}
use Rattle.plain_store.specs.declared.prepared.Prepared.{Prepared}
use Rattle.plain_values.specs.declared.program.Program.{Program}
use Rattle.plain_values.specs.declared.program.Named.{Named}
use Rattle.plain_values.specs.declared.program.Named.TheVariants as name
use Rattle.plain_values.specs.declared.program.Around.{Around}
use Rattle.plain_values.specs.declared.program.Callee.{Callee}
use Rattle.plain_values.specs.declared.program.Passed.{Passed}
use Rattle.plain_values.specs.declared.program.Passed.TheVariants as passed

-- ---- the definition's view

abbrev pub modules_in : List Prepared → Modules
modules_in ms = map (λ m. m.body.now) ms

unfoldable pub modules_of : Program → Modules
modules_of p = modules_in p.modules.now

abbrev pub name_of : Named → Name
name_of (name.At l) = At l
name_of (name.Elements l high) = Elements l high

abbrev pub frames_of : List (List Named) → List (List Name)
frames_of fs = map (map name_of) fs

unfoldable pub surroundings : Around → Setting
surroundings a = record {
  place = a.place;
  types = a.home.body.now.types;
  frames = frames_of a.frames;
  withs = a.withs;
  next = a.next;
  free = a.left;
}

unfoldable pub asks_of : Around → Asks
asks_of a = calling (modules_of a.program.now) a.program.now.bound a.depth

unfoldable pub callee_of : Callee → Asked
callee_of c = record {
  place = c.place;
  types = c.home.body.now.types;
  routine = c.routine.now;
  frames = frames_of c.frames;
}

abbrev pub argument_sent : Passed → Sent
argument_sent (passed.Number v) = Number v
argument_sent (passed.Variable l) = Variable l
argument_sent (passed.Array l high) = Array l high
argument_sent (passed.Text text) = Text text

-- ---- the parts of a program, in their surroundings

unfoldable pub value_in : Around → TypedExpr → Meant → Given ℤ
value_in a e st = value (modules_of a.program.now) (asks_of a) e (surroundings a) st

unfoldable pub located_in : Around → Place → Meant → Given Location
located_in a d st = locate (modules_of a.program.now) (asks_of a) d (surroundings a) st

unfoldable pub called_in : Around → Call → Meant → Given ℤ
called_in a c st = call_value (modules_of a.program.now) (asks_of a) c (surroundings a) st

module _ (p : Modules) (ask : Asks) where
  unfoldable pub link_value : Link → Continues
  link_value =
      fold-Link (Gives Sent) (Gives ℤ) Reaches Continues (Gives ℤ) (Gives Location)
      (argument_layer p ask) (call_layer p ask) (component_layer p ask) (link_layer p ask)
      (expr_layer p ask) (place_layer p ask)

  unfoldable pub component_value : Component → Reaches
  component_value =
      fold-Component (Gives Sent) (Gives ℤ) Reaches Continues (Gives ℤ) (Gives Location)
      (argument_layer p ask) (call_layer p ask) (component_layer p ask) (link_layer p ask)
      (expr_layer p ask) (place_layer p ask)

  unfoldable pub argument_value : Argument → Gives Sent
  argument_value =
      fold-Argument (Gives Sent) (Gives ℤ) Reaches Continues (Gives ℤ) (Gives Location)
      (argument_layer p ask) (call_layer p ask) (component_layer p ask) (link_layer p ask)
      (expr_layer p ask) (place_layer p ask)

unfoldable pub linked_in : Around → Link → ℤ → Meant → Given ℤ
linked_in a l x st = link_value (modules_of a.program.now) (asks_of a) l x (surroundings a) st

unfoldable pub links_in : Around → List Link → ℤ → Meant → Given ℤ
links_in a ls x st =
    one_by_one (map (link_value (modules_of a.program.now) (asks_of a)) ls) x (surroundings a) st

unfoldable pub reached_in : Around → Component → Location → Meant → Given Location
reached_in a c l st = component_value (modules_of a.program.now) (asks_of a) c l (surroundings a) st

unfoldable pub components_in : Around → List Component → Location → Meant → Given Location
components_in a cs l st =
    one_by_one (map (component_value (modules_of a.program.now) (asks_of a)) cs) l (surroundings a)
    st

unfoldable pub given_in : Around → Argument → Meant → Given Sent
given_in a x st = argument_value (modules_of a.program.now) (asks_of a) x (surroundings a) st

unfoldable pub all_given_in : Around → List Argument → Meant → Given (List Sent)
all_given_in a xs st =
    all_given (modules_of a.program.now) (asks_of a)
    (map (argument_value (modules_of a.program.now) (asks_of a)) xs) (surroundings a) st

unfoldable pub does_in : Around → TypedStmt → Meant → Course
does_in a s st =
    does (modules_of a.program.now) (asks_of a) a.program.now.bound s (surroundings a) st

unfoldable pub steps_in : Around → List TypedStmt → Meant → Course
steps_in a ss st =
    in_turn (map (does (modules_of a.program.now) (asks_of a) a.program.now.bound) ss)
    (surroundings a) st

-- ---- surroundings that are made

-- the surroundings of the statements of a WITH
pub record IsUnder (a : Around) (l : Location) (inner : Around) : Type 0 where
  pub program : inner.program.now ≡ a.program.now
  pub asks : asks_of inner ≡ asks_of a
  pub setting :
      surroundings inner ≡ record (surroundings a) { withs = (surroundings a).withs ++ l ∷ [] }
