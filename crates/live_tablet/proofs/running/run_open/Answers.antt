use denote.Param.Send.{sendable}
use Rattle.std.proofs.Common.{rules, ◌≡◌, ◌≤◌, [], ◌++◌, length, map, take, drop, sym, ap, subst, ◌∙◌, arith}
use Rattle.std.proofs.lemmas.List.{length-map}
use Rattle.cell_key.specs.Mutations.{row_change_of}
use Rattle.tablet_steps.specs.ModelSteps.{model_answer_of}
use Rattle.tablet_view.specs.Extending.{Extends}
use Rattle.tablet_core.specs.State.{state_of}
use Rattle.tablet_loader.specs.Loads.{log_with_all}
use Rattle.live_tablet.specs.States.{LoaderState, load_in, rules_of_loader}
use Rattle.live_tablet.specs.Reading.{AreSame}
use Rattle.live_tablet.specs.Runs.{AreOfTablet}
use Rattle.live_tablet.specs.Scanners.{IsSameScanner}
use Rattle.live_tablet.proofs.Runs.{IsCut, IsLoaded, is_cut, loaded, still_of_tablet, walks_same}
use Rattle.live_tablet.proofs.Sending.{scanner_send}
use Rattle.live_tablet.proofs.running.run_open.Given as given
use Rattle.live_tablet.proofs.running.run_open.Goals as goal

pub load_beside-requires-send-S : goal.load_beside-requires-send-S
load_beside-requires-send-S g c κs within = search (scanner_send, sendable)

pub all_walks-requires-clause-tablets : goal.all_walks-requires-clause-tablets
all_walks-requires-clause-tablets g c =
    let items = c.in_ok-scanners.scanners.items in
    let new = c.load_beside.new.readers in
    let same = subst (λ l. AreSame IsSameScanner new l) c.as_mut_slice-beside.ensures.value c.in_ok-load_beside.ensures.readers in
    let len : length items ≡ c.in_ok-scanners.scanners.len = search rules in
    let tablet = c.in_ok-load_beside.ensures.tablet ∙ ap (λ (l : LoaderState). l.tablet) c.in_ok-scanners.ensures.loader in
    subst (λ t. AreOfTablet t (take c.in_ok-scanners.scanners.len (new ++ drop (length new) items))) (sym tablet)
    (subst (λ n. AreOfTablet c.load_first.new.loader.tablet (take n (new ++ drop (length new) items))) len (still_of_tablet c.load_first.new.loader.tablet new items same c.in_ok-scanners.ensures.tablets))

cut_of : (g : given.Over) (c : goal.After-drop-whole-2 g)
    → IsCut c.args.shape.chunk (map row_change_of c.args.mutations.now) (map row_change_of c.split_at.result.0.now) (map row_change_of c.split_at.result.1.now)
cut_of g c = is_cut c.args.shape.chunk c.min.result c.args.mutations.now c.split_at.result.0.now c.split_at.result.1.now c.split_at.ensures.front c.split_at.ensures.back c.min.ensures

run_of : (g : given.Over) (c : goal.After-drop-whole-2 g)
    → IsLoaded c.args.loader.now c.load_beside.new.loader c.args.shape.chunk (map row_change_of c.args.mutations.now) (map model_answer_of c.load_beside.new.answers)
run_of g c =
    let old = c.args.loader.now in
    let cut = cut_of g c in
    let begun = c.in_ok-load_first.ensures in
    let ended = c.in_ok-load_beside.ensures in
    let seated = c.in_ok-scanners.ensures.loader in
    let few : length c.split_at.result.0.now ≤ c.args.shape.chunk = omega (arith, cut.few, length-map c.split_at.result.0.now row_change_of) in
    loaded old c.scanners_of.new.loader c.load_beside.new.loader c.args.shape.chunk (map row_change_of c.args.mutations.now) (map row_change_of c.split_at.result.0.now) (map row_change_of c.split_at.result.1.now)
    (map model_answer_of c.new-answers.result) (map model_answer_of c.load_first.new.answers) (map model_answer_of c.load_beside.new.answers)
    (omega (arith, c.requires.shape.0)) cut c.requires.empty.0 c.requires.empty.1 (ap (λ l. map model_answer_of l) c.new-answers.ensures)
    (subst (λ (l : LoaderState). Extends l.core.view old.core.view) (sym seated) begun.extends)
    (ap load_in seated ∙ begun.load c.args.shape.chunk few)
    (ap (λ (l : LoaderState). l.core.view.log) seated ∙ begun.log)
    begun.answers ended.load ended.log ended.answers

pub returns-clause-answers : goal.returns-clause-answers
returns-clause-answers g c = (run_of g c).told

pub returns-clause-walks : goal.returns-clause-walks
returns-clause-walks g c =
    let old = c.args.loader.now in
    let first = map row_change_of c.split_at.result.0.now in
    let begun = c.in_ok-load_first.ensures in
    let whole = c.in_ok-whole.ensures ∙ c.view-2.ensures in
    let least = c.mutations-least.ensures ∙ ap (λ v. length v.log) (c.deref.ensures ∙ c.view.ensures)
    ∙ ap length (begun.log ∙ ap (λ h. log_with_all (rules_of_loader old) h first) c.requires.empty.1)
    ∙ ap (λ l. length (log_with_all (rules_of_loader old) [] l)) (sym (cut_of g c).front) in
    walks_same _ _ _ _ _ _ _ _
    (ap (λ v. v.config) whole ∙ c.in_ok-load_beside.ensures.extends.config ∙ ap (λ (l : LoaderState). l.core.view.config) c.in_ok-scanners.ensures.loader ∙ begun.extends.config)
    (ap (λ v. v.log) whole ∙ (run_of g c).log)
    least
    c.in_ok-walks.ensures.walks

pub returns-clause-status : goal.returns-clause-status
returns-clause-status g c =
    let run = run_of g c in
    let kept = c.in_ok-walks.ensures.loader in (
      c.all_walks.new.loader.core,
      ap (λ (l : LoaderState). state_of l.core) kept ∙ ap (λ l. l.store) run.load,
      ap (λ (l : LoaderState). l.core.view.log) kept ∙ run.log,
      c.in_ok-status.ensures,
    )
