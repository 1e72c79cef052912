-- CloseIsExact: close is granted exactly where the count is complete.
use Rattle.std.proofs.Common.{◌≡◌, ℕ, suc, true, not, List, [], ◌∷◌, Some, None, Option, sym, refl, ap, ◌∙◌, subst, arith}
use mathlib.Core.Path.{fun_ext}
use Rattle.std.proofs.ByRecursion.{All-weaker, All-map}
use Rattle.std.proofs.lemmas.Bool.{true≢false, eqb-true, not-false, eq-eqb}
use Rattle.std.specs.List.{AllByRecursion}
use Rattle.sections.specs.Rule.{Rule}
use Rattle.methods.specs.Model.{Model}
use Rattle.common.specs.Questions.{first_no}
use Rattle.house_rules.specs.declared.phase.Phase.{Phase}
use Rattle.house_rules.specs.declared.phase.Phase.TheVariants.{Ready}
use Rattle.house_rules.specs.declared.slip.ColouredSlip.{ColouredSlip}
use Rattle.house_rules.specs.declared.slip.Slip.{Slip}
use Rattle.house_rules.specs.Calls.EveryCall.{Answer, questions, after, reply, close}
use Rattle.house_rules.specs.Calls.Close.{close_questions}
use Rattle.house_rules.specs.Theorem.Cut.{Cut, cut_of}
use Rattle.house_rules.specs.Calls.Make.{Handed, made_cells}
use Rattle.house_rules.specs.State.Names.{slips_of}
use Rattle.house_rules.specs.Theorem.Progress.{Progress, no_progress, progress_of, Complete}
use Rattle.house_rules.specs.Theorem.Histories.{outcome, step, is_done, History, granted_calls}
use Rattle.house_rules.specs.State.House.{Cells, HouseState, fresh, station_at, is_counting}
use Rattle.house_rules.specs.Theorem.Statements.{CloseIsExact}
use Rattle.common.proofs.AllYes.{all_yes_lem, no_first}
use Rattle.house_rules.proofs.Calls.Close.{owed, none_old}
use Rattle.house_rules.proofs.Statements.EveryHistory.{history_holds, history_keeps}
use Rattle.house_rules.proofs.Invariant.WholeHouse.{Holds}
use Rattle.house_rules.proofs.Invariant.Phases.{is_counting_lem}
use Rattle.house_rules.proofs.Statements.HouseIsItsPlainRun.{history_ordered}
use Rattle.house_rules.proofs.Calls.Progress.{Kept, granted_kept}
use Rattle.house_rules.proofs.Invariant.Sound.{Sound, all_gathered}
use Rattle.house_rules.proofs.Lists.Sums.{get_or-same}
use Rattle.house_rules.proofs.Lists.Totals.{sum_n, sum_n_zero, sum_n_none, count, count_none}
use Rattle.house_rules.proofs.Calls.Turn.{during_of}
use Rattle.house_rules.proofs.Calls.MethodQuestions.{house_decides}
use Rattle.methods.specs.Model as models

pub made_kept : (handed : Handed) → Kept no_progress Ready (made_cells handed)
made_kept handed = record { opened = refl; gathered = fun_ext (λ s. ap (λ u. u.gathered) (sym (get_or-same handed.n fresh s))); late_takes = λ s. let e : (station_at (made_cells handed) s).unreported ≡ 0 = ap (λ u. u.unreported) (get_or-same handed.n fresh s) in omega arith }

history_kept : (m : Model) → models.Lawful m → (rule : Rule) (x : HouseState m.State) (history : History m rule x) → Kept (progress_of (granted_calls m rule x history)) x.phase x.cells
history_kept m ml rule x history =
    history_keeps m ml rule (λ c g x. Kept g x.phase x.cells) (λ c g x k kept call y z. granted_kept m rule c g x k.sound kept call y) (λ handed q. made_kept handed) x history

-- what holds of the slips of a tray holds of them with their colours
plain_all : (P : Slip → Type 0) (xs : List ColouredSlip) → AllByRecursion P (slips_of xs) → AllByRecursion (λ (x : ColouredSlip). P x.slip) xs
plain_all P [] h = tt
plain_all P (x ∷ xs) h = (h.0, plain_all P xs h.1)

done_none : {Q : Type 0} (o : Option (ℕ × ℕ × ℕ)) (x : HouseState Q) (a : Answer) → is_done (outcome o x a) ≡ true → o ≡ None
done_none None x a e = refl
done_none (Some code) x a e = absurd (true≢false (sym e))

pub close_is_exact : (m : Model) → models.Lawful m → CloseIsExact m
close_is_exact m ml rule x history = (
  λ q. subst (λ xs. Complete x.cells.n (cut_of (granted_calls m rule x history)) (progress_of (granted_calls m rule x history)) xs) (sym (history_ordered m ml rule x history)) (there q),
  λ z. back (subst (λ xs. Complete x.cells.n (cut_of (granted_calls m rule x history)) (progress_of (granted_calls m rule x history)) xs) (history_ordered m ml rule x history) z),
)
  where
    c : Cut
    c = cut_of (granted_calls m rule x history)

    g : Progress
    g = progress_of (granted_calls m rule x history)

    cells : Cells
    cells = x.cells

    p : Phase
    p = x.phase

    out : ℕ
    out = m.rules.outstanding x.method

    holds : Holds m rule c x
    holds = history_holds m ml rule x history

    so : Sound rule c p cells out
    so = holds.sound

    k : Kept g p cells
    k = history_kept m ml rule x history

    there : is_done (step m rule x close) ≡ true → Complete cells.n c g (slips_of cells.tray)
    there q =
        let y = all_yes_lem (close_questions p cells out) (sym (house_decides m rule c x holds close) ∙ done_none (first_no (questions m rule x close)) _ _ q) in
        let ph = is_counting_lem p y.0 in
        let co = during_of rule c p cells out so ph in
        let o = owed rule c p cells out so co y.1.0 in
        let zo = eqb-true out 0 y.1.1.0 in
        let u : sum_n (λ s. (station_at cells s).unreported) cells.n ≡ 0 = omega arith in
        record {
          opened = k.opened ∙ y.0;
          gathered = λ s lt. ap (λ f. f s) k.gathered ∙ all_gathered cells.n (λ s. (station_at cells s).gathered) c.turned co.tree y.1.0 (suc s) s (omega arith) lt;
          arrived = All-map (λ (z : Slip). c.new z.sender z.number ≡ true) (λ (x : ColouredSlip). x.slip) cells.tray (All-weaker _ _ (λ x e. not-false _ e) cells.tray (none_old rule c p cells out so co y.1.0 zo));
          reported = λ s lt. let a = k.late_takes s in let b = sum_n_zero (λ s. (station_at cells s).unreported) cells.n u s lt in omega arith;
        }

    back : Complete cells.n c g (slips_of cells.tray) → is_done (step m rule x close) ≡ true
    back z =
        let pc : is_counting p ≡ true = sym k.opened ∙ z.opened in
        let ph = is_counting_lem p pc in
        let co = during_of rule c p cells out so ph in
        let root : (station_at cells 0).gathered ≡ true = ap (λ f. f 0) (sym k.gathered) ∙ z.gathered 0 so.shape.some' in
        let o = owed rule c p cells out so co root in
        let olds : count (λ a b. not (c.new a b)) cells.tray ≡ 0 = count_none (λ a b. not (c.new a b)) cells.tray (All-weaker _ _ (λ x e. ap not e) cells.tray (plain_all (λ (y : Slip). c.new y.sender y.number ≡ true) cells.tray z.arrived)) in
        let us : sum_n (λ s. (station_at cells s).unreported) cells.n ≡ 0 = sum_n_none (λ s. (station_at cells s).unreported) cells.n (λ s lt. let a = k.late_takes s in let b = z.reported s lt in omega arith) in
        let left : out ≡ 0 = omega arith in
        ap (λ q. is_done (outcome q (after m rule x close) (reply m x close))) (house_decides m rule c x holds close ∙ no_first (close_questions p cells out) (pc, (root, (eq-eqb out 0 left, tt))))
