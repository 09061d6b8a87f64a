-- A procedure's function does what is asked, if its body does what the definition says.
use Rattle.std.specs.Prelude.{◌≡◌, ℕ, suc, ◌+◌, ◌<◌, ◌^◌, Bool, true, false, nat_eq, nat_lt, List, [], ◌∷◌, ◌++◌, length, Option, Some, None, if◌then◌else◌}
use Rattle.std.specs.List.{flat_map}
use Rattle.wasm_tree.specs.declared.instr.Instr.{Instr}
use Rattle.wasm_tree.specs.declared.store.Value.{Value}
use Rattle.wasm_tree.specs.declared.store.Value.TheVariants.{I32}
use Rattle.wasm_tree.specs.Machine.{Typed, zeros}
use Rattle.law_effect.specs.Effect.{Calling}
use Rattle.typed_tree.specs.declared.typed_module.Routine.{Routine}
use Rattle.typed_tree.specs.declared.typed_module.TypedModule.{TypedModule}
use Rattle.layout_storage.specs.Types.{Ty, row, IsFit}
use Rattle.layout_storage.specs.Sizes.{size, offset}
use Rattle.layout_storage.specs.Frames.{frame}
use Rattle.def_meaning.specs.Store.{Location}
use Rattle.def_meaning.specs.Answer.{State as Source}
use Rattle.def_meaning.specs.Outcome.{Exited}
use Rattle.def_meaning.specs.Answer as answer
use Rattle.def_meaning.specs.Environment.{Modules, Environment, Frames, Callee, Passed}
use Rattle.def_meaning.specs.Calls.{is_function}
use Rattle.def_meaning.specs.Expressions.{Asks}
use Rattle.def_scheme.specs.Coded.{Coded, Counts}
use Rattle.def_scheme.specs.Exprs.{Numbered, has_result}
use Rattle.def_scheme.specs.Addresses.{addresses_in}
use Rattle.def_scheme.specs.Functions.{numbers_of, prologue, setting, from_text, locals_of, function_code, end_code}
use Rattle.law_simulation.specs.Begun.{body_does, runs as asked_runs}
use Rattle.law_simulation.specs.Scene.{Scene, HasHelpers, AreSmall, IsSet, Executes, runs}
use Rattle.law_simulation.specs.Frames.{Kinds, kinds_of, AreFrames, HasFrames}
use Rattle.law_simulation.specs.Passing.{forms_of, result_of, HasTop, DoesAsked}
use Rattle.law_simulation.specs.Stage.{AreForms, HasLimit}

-- ---- where a body runs

-- what is kept: the frame's address, and the end of the instances that live
abbrev pub kept_in : (frame free top : ℕ) → ℕ → Option Value
kept_in frame free top w =
    if nat_eq w 0 then Some (I32 frame) else (if nat_eq w top then Some (I32 free) else None)

abbrev pub top_of : TypedModule → Routine → ℕ
top_of m r = suc (numbers_of m.types r)

module _ (k : Scene) (m : TypedModule) (r : Routine) (outer : List Ty) (locals : ℕ) where
  abbrev pub body_scene : (world : List Ty) (x : Location → ℕ → ℕ) (root : ℕ) → Environment → Scene
  body_scene world x root a = record k {
    around = a;
    setting = setting m (frame m.types r ∷ outer) (top_of m r) (addresses_in r.body);
    world = world;
    hidden = x;
    locals = locals;
    result = result_of m.types r.heading;
    kept = kept_in (offset (row world) (root ∷ [])) (size (row world)) (top_of m r);
  }

-- ---- what is known of a procedure

abbrev pub is_inner : List Kinds → Bool
is_inner [] = false
is_inner (ks ∷ kss) = true

pub record IsProcedure (k : Scene) (m : TypedModule) (r : Routine) (outer : List Ty)
    (kss : List Kinds) : Type 0 where
  pub helpers : HasHelpers k
  pub limit : HasLimit k
  pub small : AreSmall m.types
  pub forms : AreForms (forms_of m.types r.heading)
  pub fit : IsFit (frame m.types r)
  pub least : size (frame m.types r) < 2 ^ 31
  pub linked : nat_lt 1 r.level ≡ is_inner kss
  pub frames : AreFrames kss outer

-- the body's code
abbrev pub coded_body : Numbered → TypedModule → Routine → (outer : List Ty) → (text : ℕ)
    → List Instr × Counts
coded_body numbered m r outer text =
    function_code numbered m (frame m.types r ∷ outer) (top_of m r) text r.body

-- how many locals: the arguments, two for addresses of the storage, and those that the body asks
-- for
abbrev pub locals_in : Numbered → TypedModule → Routine → (outer : List Ty) → (text : ℕ) → ℕ
locals_in numbered m r outer text =
    top_of m r
    + (2 + (coded_body numbered m r outer text).1.addresses
    + (coded_body numbered m r outer text).1.numbers)

-- the function
pub record IsFunction (numbered : Numbered) (m : TypedModule) (r : Routine) (outer : List Ty)
    (text : ℕ) (t : Typed) : Type 0 where
  pub params : length t.type.params ≡ top_of m r
  pub results : length t.type.results ≡ (if has_result m.types r.heading then 1 else 0)
  pub locals : t.function.body.locals ≡ locals_of (coded_body numbered m r outer text).1
  pub code : t.function.body.code
      ≡ prologue m.types r (top_of m r) (suc (top_of m r))
      ++ ((coded_body numbered m r outer text).0 ++ end_code (has_result m.types r.heading))
  pub addresses : (coded_body numbered m r outer text).1.addresses ≡ addresses_in r.body

-- the body does what the definition says, and EXIT does not leave it
pub record DoesBody (k : Scene) (p : Modules) (ask : Asks) (numbered : Numbered) (m : TypedModule)
    (place : ℕ) (r : Routine) (outer : List Ty) (text : ℕ) (kss : List Kinds) (base : List Ty)
    (texts : Location → ℕ → ℕ) : Type 0 where
  -- the code with its texts where they are
  pub placed : Coded
  pub same : placed (setting m (frame m.types r ∷ outer) (top_of m r) (addresses_in r.body))
      (from_text text)
      ≡ coded_body numbered m r outer text
  pub executes : (world : List Ty) (x : Location → ℕ → ℕ) (root : ℕ) (a : Environment)
      → a.types ≡ m.types
      → a.place ≡ place
      → a.withs ≡ []
      → IsSet (body_scene k m r outer (locals_in numbered m r outer text) world x root a)
      → HasFrames (body_scene k m r outer (locals_in numbered m r outer text) world x root a)
      (kinds_of m.types r ∷ kss)
      → HasTop (body_scene k m r outer (locals_in numbered m r outer text) world x root a) base
      texts
      → Executes (body_scene k m r outer (locals_in numbered m r outer text) world x root a)
      (is_function m.types r) placed (body_does p k.turns ask r.body)
  pub stays : (a : Environment) (s s' : Source)
      → body_does p k.turns ask r.body a s ≡ answer.Value Exited s' → ⊥

abbrev pub callee_of : (place : ℕ) → TypedModule → Routine → Frames → Callee
callee_of place m r nss = record { place = place; types = m.types; routine = r; frames = nss }

-- calls of the function run its code, and what is asked runs the procedure
abbrev pub RoutineDoes : Type 0
RoutineDoes =
    (k : Scene) (p : Modules) (ask asks : Asks) (calls : Calling) (numbered : Numbered)
    (m : TypedModule) (place : ℕ) (r : Routine) (outer : List Ty) (text : ℕ) (kss : List Kinds)
    (base : List Ty) (texts : Location → ℕ → ℕ) (f : ℕ) (t : Typed)
    → IsProcedure k m r outer kss
    → IsFunction numbered m r outer text t
    → DoesBody k p ask numbered m place r outer text kss base texts
    → ((args : List Value) (bytes out : List ℕ)
    → calls k.own f t args bytes out
    ≡ runs k t.function.body.code
    (record { locals = args ++ flat_map zeros t.function.body.locals; bytes = bytes; out = out })
    [])
    → (nss : Frames)
    → ((vs : List Passed) (next left : ℕ) (s : Source)
    → asks (Some (callee_of place m r nss)) vs next left s
    ≡ asked_runs p k.turns ask (callee_of place m r nss) vs next left s)
    → DoesAsked k.program base texts k.limit calls asks (callee_of place m r nss) kss
    (forms_of m.types r.heading) (result_of m.types r.heading) k.own f t
