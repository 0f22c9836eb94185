-- What ghost assignments cite.
use Rattle.std.proofs.Common.{◌≡◌, refl, sym, ap, subst, ◌∙◌, ℕ, true, List, Option, Some, slice_get}
use Rattle.jh_name.specs.declared.naming.Name.{Name}
use Rattle.jh_name.specs.declared.place.Kind.{Kind}
use Rattle.jh_name.specs.declared.place.Place.{Place}
use Rattle.jh_form.specs.Tree.{ValueTree, TermTree, of_object}
use Rattle.jh_arena.specs.table.Entries.{Listing, is_object, the_object}
use Rattle.jh_arena.specs.table.Growth.{Extends}
use Rattle.jh_arena.specs.table.Nodes.{nodes}
use Rattle.jh_arena.proofs.table.Children.{it-is-object}
use Rattle.jh_vars.specs.Written.{Callee}
use Rattle.jh_semantics.specs.Code as c
use Rattle.jh_semantics.specs.LoweredStmts.{of_kind, class_before_dot, ghost_code}
use Rattle.jh_command_statements.specs.declared.simple_statements.ghosts.Left.{Left}
use Rattle.jh_command_statements.specs.declared.simple_statements.ghosts.Left.TheVariants as l
use Rattle.jh_command_statements.specs.simple_statements.Ghosts.{left_in, object_stands}
use Rattle.jh_machine_code.specs.declared.code.step.Step.TheVariants as x
use Rattle.jh_machine_code.specs.code.Steps.{IsStep}
use Rattle.jh_machine_code.specs.numbering.Numbered.{IsText}
use Rattle.jh_machine_code.proofs.numbering.Standing.{grows_twice, stands_still}
use Rattle.jh_machine_compiler.specs.Lasting.{Makes}
use Rattle.jh_machine_compiler.proofs.FormulaSteps.{node-kept}

module _ (numbered : Callee → Option ℕ) (names : List Name) (old t : Listing) (q r : Place) (v : ValueTree) where
  nothing : Makes numbered true names t (ghost_code q (left_in old l.Nothing) r v) x.Empty
  unfolding IsStep
  nothing = record { is = λ later u more much. refl }

  name : (kind : Kind) (y : Name) (k n : ℕ) → slice_get (nodes t) n ≡ Some (of_kind kind v) → IsText names y.text k → Makes numbered true names t (ghost_code q (left_in old (l.Name kind y)) r v) (x.Ghost k r n)
  unfolding IsStep
  name kind y k n there number = record {
    is = λ later u more much. record {
      value = of_kind kind v;
      named = number.fits later more;
      there = node-kept u n (of_kind kind v) (much.nodes.keeps n (of_kind kind v) there);
      is = λ i. c.ghost (sym (number.same later more) i) r (of_kind kind v);
    };
  }

  read : (kind : Kind) (f : Name) (a m k n : ℕ) → is_object (slice_get (nodes old) a) ≡ true → Extends old t → slice_get (nodes t) n ≡ Some (of_kind kind v) → IsText names (class_before_dot f.text) m → IsText names f.text k →
      Makes numbered true names t (ghost_code q (left_in old (l.Read kind f a)) r v) (x.GhostAt (record { left = q; class = m; field = k; object = a; right = r; value = n }))
  unfolding IsStep
  read kind f a m k n stands extends there class field =
      let object : TermTree = the_object (slice_get (nodes old) a) in
      let at : slice_get (nodes t) a ≡ Some (of_object object) = extends.nodes.keeps a (of_object object) (it-is-object (slice_get (nodes old) a) stands) in
      record {
        is = λ later u more much. record {
          object = object;
          value = of_kind kind v;
          class = class.fits later more;
          field = field.fits later more;
          at = node-kept u a (of_object object) (much.nodes.keeps a (of_object object) at);
          there = node-kept u n (of_kind kind v) (much.nodes.keeps n (of_kind kind v) there);
          is = λ i. c.ghost_at q (sym (class.same later more) i) (sym (field.same later more) i) object r (of_kind kind v);
        };
      }

pub ghost_nothing : {numbered : Callee → Option ℕ} {names : List Name} {t : Listing} {left : Left} → (old : Listing) (q r : Place) (v : ValueTree) → left ≡ l.Nothing → Makes numbered true names t (ghost_code q (left_in old left) r v) x.Empty
ghost_nothing {numbered} {names} {t} old q r v is = subst (λ e. Makes numbered true names t (ghost_code q (left_in old e) r v) x.Empty) (sym is) (nothing numbered names old t q r v)

pub ghost_name : {numbered : Callee → Option ℕ} {names : List Name} {t : Listing} {r : Place} {left : Left} {kind : Kind} {y : Name} {k n : ℕ} → (old : Listing) (q : Place) (v : ValueTree) → left ≡ l.Name kind y → slice_get (nodes t) n ≡ Some (of_kind kind v) → IsText names y.text k → Makes numbered true names t (ghost_code q (left_in old left) r v) (x.Ghost k r n)
ghost_name {numbered} {names} {t} {r} {left} {kind} {y} {k} {n} old q v is there number = subst (λ e. Makes numbered true names t (ghost_code q (left_in old e) r v) (x.Ghost k r n)) (sym is) (name numbered names old t q r v kind y k n there number)

pub ghost_read : {numbered : Callee → Option ℕ} {names : List Name} {old t : Listing} {q r : Place} {left : Left} {kind : Kind} {f : Name} {a m k n : ℕ} → (v : ValueTree) → left ≡ l.Read kind f a → object_stands old left ≡ true → Extends old t → slice_get (nodes t) n ≡ Some (of_kind kind v) → IsText names (class_before_dot f.text) m → IsText names f.text k →
    Makes numbered true names t (ghost_code q (left_in old left) r v) (x.GhostAt (record { left = q; class = m; field = k; object = a; right = r; value = n }))
ghost_read {numbered} {names} {old} {t} {q} {r} {left} {kind} {f} {a} {m} {k} {n} v is stands extends there class field =
    subst
    (λ e. Makes numbered true names t (ghost_code q (left_in old e) r v) (x.GhostAt (record { left = q; class = m; field = k; object = a; right = r; value = n })))
    (sym is)
    (read numbered names old t q r v kind f a m k n (ap (object_stands old) (sym is) ∙ stands) extends there class field)

pub ruleset ghost_steps = (grows_twice, stands_still, ghost_nothing, ghost_name, ghost_read)
