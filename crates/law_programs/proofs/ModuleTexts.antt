-- The texts of a module whose bodies are typed are bytes.
use Rattle.std.proofs.Common.{◌≡◌, ℕ, zero, suc, ◌+◌, ◌<◌, ◌≤◌, false, List, [], ◌∷◌, ◌++◌, length, get_or, Option, Some, None, refl, sym, ap, subst, arith}
use Rattle.std.specs.Prelude.{All}
use Rattle.std.specs.List.{AllByRecursion, flat_map}
use Rattle.std.proofs.lemmas.List.Elements.{All-from_recursion}
use Rattle.typed_tree.specs.declared.typed_module.Routine.{Routine}
use Rattle.typed_tree.specs.declared.typed_module.TypedModule.{TypedModule}
use Rattle.typed_tree.specs.declared.typed_module.Which.{Which}
use Rattle.typed_tree.specs.declared.typed_module.Which.TheVariants as which
use Rattle.layout_storage.specs.Texts.{Texts, characters, body_texts, routine_texts, which_texts, routines_texts, module_texts}
use Rattle.def_scheme.specs.Functions.{routine_of}
use Rattle.def_scheme.specs.Modules.{all_characters}
use Rattle.law_modules.specs.Linked.{text}
use Rattle.law_simulation.specs.Frames.{kinds_of}
use Rattle.law_simulation.specs.Passing.{result_of}
use Rattle.law_simulation.specs.TreesTyped.{Context}
use Rattle.law_simulation.specs.Linked.{text_of, environment_of}
use Rattle.law_programs.specs.Wanted.{TextStands, TextsStand}
use Rattle.law_programs.specs.TypingBodies.{Stage, stands, AreBodiesTyped}
use Rattle.law_programs.specs.TypingWants.{AreProvided}
use Rattle.law_programs.proofs.TypedTexts.{AreSmall, stmts_small}
use Rattle.law_programs.proofs.Provided.{characters_append, which_texts_are}

-- ---- lists of bytes

abbrev AreBytes : List ℕ → Type 0
AreBytes cs = AllByRecursion (λ b. b < 256) cs

bytes_append : (cs ds : List ℕ) → AreBytes cs → AreBytes ds → AreBytes (cs ++ ds)
bytes_append [] ds h k = k
bytes_append (c ∷ cs) ds h k = (h.0, bytes_append cs ds h.1 k)

bytes_each : (cs : List ℕ) → ((j : ℕ) → j < length cs → get_or cs j 0 < 256) → AreBytes cs
bytes_each [] h = tt
bytes_each (c ∷ cs) h = (h 0 (omega arith), bytes_each cs (λ j l. h (suc j) (omega (arith, l))))

bytes_joined : (ts us : Texts) → AreBytes (all_characters ts) → AreBytes (all_characters us)
    → AreBytes (all_characters (ts ++ us))
bytes_joined ts us h k = subst AreBytes (sym (characters_append ts us))
    (bytes_append (all_characters ts) (all_characters us) h k)

-- ---- texts that stand among bytes

module _ (x : Context) where
  one_bytes : (from to at : ℕ) (t : List ℕ) → AreSmall x from to → from ≤ at → at + length t ≤ to → TextStands x at t
      → AreBytes t
  one_bytes from to at t small low high h =
      bytes_each t (λ j l. subst (λ (c : ℕ). c < 256) (h.same j l)
      (small (at + j) (omega (arith, low)) (omega (arith, l, high))))

  texts_bytes : (from to at : ℕ) (ts : Texts) → AreSmall x from to → from ≤ at → at + characters ts ≤ to
      → TextsStand x at ts → AreBytes (all_characters ts)
  texts_bytes from to at [] small low high h = tt
  texts_bytes from to at (t ∷ ts) small low high h =
      bytes_append t (all_characters ts)
      (one_bytes from to at t small low (omega (arith, high)) h.0)
      (texts_bytes from to (at + length t) ts small (omega (arith, low)) (omega (arith, high)) h.1)

-- ---- modules

no_texts : (m : TypedModule) (w : Which) → routine_of m w ≡ None → which_texts m w ≡ []
no_texts m (which.Module n) e = ap routine_texts e
no_texts m (which.Local n) e = ap routine_texts e

module _ (z : Stage) (typed : AreBodiesTyped z z.home.body) (provided : AreProvided z) where
  abbrev m : TypedModule
  m = z.home

  routine_bytes : (w : Which) (r : Routine) → routine_of m w ≡ Some r → AreBytes (all_characters (body_texts r.body))
  routine_bytes w r is =
      let x : Context = stands z (kinds_of m.types r ∷ environment_of m r) in
      let has = provided.procedures w r is (kinds_of m.types r ∷ environment_of m r) in
      texts_bytes x (text_of m w) (text_of m w + characters (body_texts r.body)) (text_of m w) (body_texts r.body)
      (stmts_small x (result_of m.types r.heading) [] false (text_of m w) (text_of m w + characters (body_texts r.body))
      r.body ((typed.procedures w r is).0 (text_of m w) has))
      (omega arith) (omega arith) has.texts

  which_bytes : (w : Which) (o : Option Routine) → routine_of m w ≡ o → AreBytes (all_characters (which_texts m w))
  which_bytes w None is = subst (λ (ts : Texts). AreBytes (all_characters ts)) (sym (no_texts m w is)) tt
  which_bytes w (Some r) is = subst (λ (ts : Texts). AreBytes (all_characters ts)) (sym (which_texts_are m w r is))
      (routine_bytes w r is)

  all_routines : (ws : List Which) → AreBytes (all_characters (flat_map (which_texts m) ws))
  all_routines [] = tt
  all_routines (w ∷ ws) = bytes_joined (which_texts m w) (flat_map (which_texts m) ws)
      (which_bytes w (routine_of m w) refl) (all_routines ws)

  body_bytes : AreBytes (all_characters (body_texts m.body))
  body_bytes =
      let x : Context = stands z [] in
      let from : ℕ = characters (routines_texts m) in
      let has = provided.body [] in
      texts_bytes x from (from + characters (body_texts m.body)) from (body_texts m.body)
      (stmts_small x None [] false from (from + characters (body_texts m.body)) m.body (typed.body from has))
      (omega arith) (omega arith) has.texts

  pub module_bytes : All (λ b. b < 256) (text m)
  module_bytes = All-from_recursion (λ b. b < 256) (text m)
      (bytes_joined (routines_texts m) (body_texts m.body) (all_routines m.order) body_bytes)
