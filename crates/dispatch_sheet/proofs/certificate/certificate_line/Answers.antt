use Rattle.std.proofs.Common.{◌≡◌, ◌++◌, Ok, ap, ap₂, ◌∙◌, subst, string_bytes}
use Rattle.std.proofs.lemmas.Str.{IsUtf8-string_bytes}
use Rattle.json.specs.Print.{print}
use Rattle.serde_json.proofs.Texts.{print-outline}
use Rattle.rail_codes.specs.Moment.{IsMomentText}
use Rattle.dispatch_sheet.specs.Certificate.{commit_data, commit_of}
use Rattle.line_fields.specs.WrittenTokens.{data_tokens}
use Rattle.dispatch_sheet.proofs.Certificates.{line-reads}
use Rattle.dispatch_sheet.proofs.certificate.certificate_line.Goals as goal

written : (c : goal.After-drop-at-2) → c.write_commit.new.out.tokens ≡ data_tokens (commit_data (commit_of c.args.snap.now c.args.plan.now c.args.prices.now.u.items c.args.prices.now.v.items) (string_bytes c.in_ok-at.at))
written c =
    let commit = commit_of c.args.snap.now c.args.plan.now c.args.prices.now.u.items c.args.prices.now.v.items in
    (c.in_ok-write_commit.ensures {u = tt}).tokens ∙ ap₂ (λ ts at. ts ++ data_tokens (commit_data commit at)) c.new-out.ensures.tokens c.deref.ensures

pub returns-clause-text : goal.returns-clause-text
returns-clause-text c =
    let at = string_bytes c.in_ok-at.at in
    let commit = commit_of c.args.snap.now c.args.plan.now c.args.prices.now.u.items c.args.prices.now.v.items in
    record {
      at = at;
      moment = subst (λ seconds. IsMomentText seconds at) c.at.ensures c.in_ok-at.ensures.printed;
      text = c.written_text.ensures.text ∙ ap print (written c) ∙ print-outline (commit_data commit at);
    }

pub returns-clause-reads : goal.returns-clause-reads
returns-clause-reads c =
    let at = string_bytes c.in_ok-at.at in
    let commit = commit_of c.args.snap.now c.args.plan.now c.args.prices.now.u.items c.args.prices.now.v.items in
    line-reads (string_bytes c.written_text.result) commit at (IsUtf8-string_bytes c.written_text.result) (c.written_text.ensures.tokens ∙ written c) (c.in_ok-write_commit.ensures {u = tt}).readable (c.in_ok-at.ensures.reads_back ∙ ap Ok c.at.ensures)
