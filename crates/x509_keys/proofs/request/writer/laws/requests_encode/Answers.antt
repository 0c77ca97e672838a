use Rattle.x509_keys.proofs.RequestLaws.WriterLaws.Requests.{algorithm_encodes, key_encodes, name_encodes, alternative_names_encode, request_encodes}
use Rattle.x509_keys.proofs.request.writer.laws.requests_encode.Goals as goal

pub returns : goal.returns
returns c = record {
  algorithms = algorithm_encodes;
  keys = key_encodes;
  names = name_encodes;
  alternative_names = alternative_names_encode;
  requests = request_encodes;
}
