-- Jobs in code and in the model, list by list.
use Rattle.std.proofs.Common.{◌≡◌, ℕ, ◌+◌, ◌≤◌, ◌<◌, Bool, true, false, cond, not, eqb, nat_lt, List, [], ◌∷◌, ◌++◌, map, refl, ap, ◌∙◌, arith, add-one, reverse, Bor}
use Rattle.std.specs.List.{filter, insert}
use Rattle.std.proofs.lemmas.List.{map-append, reverse-append}
use Rattle.tablet_model.specs.Sorted.{put, sorted}
use Rattle.compactor.specs.declared.job_state.JobState.{JobState}
use Rattle.compactor.specs.Jobs.{is_behind, job_of}

pub filter_jobs : (j : ℕ) (jobs : List JobState) → map job_of (filter (λ t. not (eqb j t.job)) jobs) ≡ filter (λ t. not (eqb j t.job)) (map job_of jobs)
filter_jobs j [] = refl
filter_jobs j (t ∷ ts) = go (not (eqb j t.job)) (filter_jobs j ts)
  where
    go : (b : Bool) → map job_of (filter (λ t. not (eqb j t.job)) ts) ≡ filter (λ t. not (eqb j t.job)) (map job_of ts) → map job_of (cond b (t ∷ filter (λ t. not (eqb j t.job)) ts) (filter (λ t. not (eqb j t.job)) ts)) ≡ cond b (job_of t ∷ filter (λ t. not (eqb j t.job)) (map job_of ts)) (filter (λ t. not (eqb j t.job)) (map job_of ts))
    go true h = ap (λ l. job_of t ∷ l) h
    go false h = h

-- how many jobs stand before the first whose number is not below another
pub before : ℕ → List JobState → ℕ
before j [] = 0
before j (t ∷ ts) = cond (nat_lt t.job j) (before j ts + 1) 0

pub before_none : (j : ℕ) → before j [] ≡ 0
unfolding before
before_none j = refl

pub before_stops : (j : ℕ) (t : JobState) (ts : List JobState) → j ≤ t.job → before j (t ∷ ts) ≡ 0
unfolding before
before_stops j t ts h = ap (λ b. cond b (before j ts + 1) 0) (is_not t.job j h)
  where
    is_not : (a b : ℕ) → b ≤ a → nat_lt a b ≡ false
    is_not a b h = grind arith

pub before_goes : (j : ℕ) (t : JobState) (ts : List JobState) → t.job < j → before j (t ∷ ts) ≡ before j ts + 1
unfolding before
before_goes j t ts h = ap (λ b. cond b (before j ts + 1) 0) (is_less t.job j h)
  where
    is_less : (a b : ℕ) → a < b → nat_lt a b ≡ true
    is_less a b h = grind arith

pub insert_put : (j : JobState) (jobs : List JobState) → map job_of (insert jobs (before j.job jobs) j) ≡ put is_behind (job_of j) (map job_of jobs)
unfolding before put
insert_put j [] = refl
insert_put j (t ∷ ts) = go (nat_lt t.job j.job) (insert_put j ts)
  where
    go : (b : Bool) → map job_of (insert ts (before j.job ts) j) ≡ put is_behind (job_of j) (map job_of ts) → map job_of (insert (t ∷ ts) (cond b (before j.job ts + 1) 0) j) ≡ cond b (job_of t ∷ put is_behind (job_of j) (map job_of ts)) (job_of j ∷ job_of t ∷ map job_of ts)
    go true h = rw add-one (ap (λ l. job_of t ∷ l) h)
    go false h = refl

-- one job more, from the last one on
pub sorted_more : (ys : List (Bor JobState)) (y : Bor JobState) → sorted is_behind (map job_of (reverse (map (λ t. t.now) (ys ++ y ∷ [])))) ≡ put is_behind (job_of y.now) (sorted is_behind (map job_of (reverse (map (λ t. t.now) ys))))
unfolding sorted
sorted_more ys y = ap (λ l. sorted is_behind (map job_of l)) (ap (λ l. reverse l) (map-append (λ t. t.now) ys (y ∷ [])) ∙ reverse-append (map (λ t. t.now) ys) (y.now ∷ []))
