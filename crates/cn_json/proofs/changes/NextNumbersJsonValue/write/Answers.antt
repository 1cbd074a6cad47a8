use Rattle.std.proofs.Common.{◌≡◌, ◌∙◌, List, Option, ap, codes}
use Rattle.cn_unread_number.specs.declared.bounds.NumberBounds.{NumberBounds}
use Rattle.cn_changes.specs.Told.{agreed}
use Rattle.cn_changes.specs.declared.numbers.ChangeNumber.{ChangeNumber}
use Rattle.json.specs.Token.{Token}
use Rattle.cn_json.specs.Changes.{next_data, response_number_data, told_responses}
use Rattle.cn_json.specs.Tokens.{member_tokens}
use Rattle.cn_json.specs.Values.{list_data}
use Rattle.cn_json.proofs.Pieces.{piece, same}
use Rattle.cn_json.proofs.changes.NextNumbersJsonValue.write.Goals as goal

pub returns : goal.returns
unfolding next_data
returns c =
    let numbers = c.as_slice-numbers.ensures.value in
    let number : c.agreed-number.result ≡ agreed c.args.self.now.numbers.items = c.agreed-number.ensures ∙ ap agreed numbers in
    let told : List ChangeNumber → Option NumberBounds → List Token = λ rs n. member_tokens (codes "responses") (list_data (response_number_data c.args.table.now) (told_responses rs n)) in
    let responses = same c.in_ok-write_responses.ensures (ap (λ rs. told rs c.agreed-number.result) numbers ∙ ap (told c.args.self.now.numbers.items) number) in
    rw (c.state_name.ensures, c.operation_name.ensures, c.state_name-2.ensures)
    (piece c.in_ok-begin_object.ensures (piece c.in_ok-member.ensures (piece c.in_ok-key.ensures (piece (rw number at c.in_ok-write_agreed.ensures)
    (piece c.in_ok-member-2.ensures (piece responses c.last_members.ensures))))))
