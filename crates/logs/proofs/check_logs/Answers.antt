-- `check_logs`.
use mathlib.Core.Path.{◌≡◌, refl, sym, ◌∙◌}
use mathlib.Core.Bool.{true, false, ◌&&◌}
use borrow.Author.Tests.{not-true, not-false}
use Rattle.base.proofs.Tests.{and_false}
use Rattle.rules.specs.LogFiles.{log_length_ok, log_channels_ok, logs_answer}
use Rattle.logs.specs.Following.{followed_answer}
use Rattle.logs.proofs.check_logs.Goals as goal
use Rattle.logs.proofs.check_logs.Goals.{then-not-length_ok-via-then-not-length_ok, then-not-length_ok-via-else-not-length_ok+then-not-length_ok-2}

pub returns-then-not-length_ok : goal.returns-then-not-length_ok
unfolding logs_answer
returns-then-not-length_ok c =
    let s = log_length_ok c.args.sent.now in
    let e : s && log_length_ok c.args.received.now ≡ false =
    elim c.then-not-length_ok.branch [
      | then-not-length_ok-via-then-not-length_ok w ↦ let f : s ≡ false = sym w.if-not-length_ok.ensures in rw f refl
      | then-not-length_ok-via-else-not-length_ok+then-not-length_ok-2 w ↦
          let f : log_length_ok c.args.received.now ≡ false = sym w.if-not-length_ok-2.ensures in
          rw f (and_false s)
    ] in
    rw e refl

pub link-links-requires : goal.link-links-requires
link-links-requires c = sym c.if-not-length_ok.ensures

pub returns-then-not-links : goal.returns-then-not-links
unfolding logs_answer
returns-then-not-links c =
    let s : log_length_ok c.args.sent.now ≡ true = sym c.if-not-length_ok.ensures in
    let r : log_length_ok c.args.received.now ≡ true = sym c.if-not-length_ok-2.ensures in
    let e : log_channels_ok c.args.sent.now ≡ false = sym c.link-links.ensures.ok ∙ not-true c.link-links.result.ok c.if-not-links.true in
    rw (s, r, e) refl

pub follow-requires : goal.follow-requires
follow-requires c =
    (sym c.if-not-length_ok.ensures, sym c.if-not-length_ok-2.ensures, c.link-links.ensures, not-false c.link-links.result.ok c.if-not-links.false)

pub returns : goal.returns
unfolding logs_answer followed_answer
returns c =
    let s : log_length_ok c.args.sent.now ≡ true = sym c.if-not-length_ok.ensures in
    let r : log_length_ok c.args.received.now ≡ true = sym c.if-not-length_ok-2.ensures in
    let e : log_channels_ok c.args.sent.now ≡ true = sym c.link-links.ensures.ok ∙ not-false c.link-links.result.ok c.if-not-links.false in
    c.follow.ensures ∙ rw (s, r, e) refl
