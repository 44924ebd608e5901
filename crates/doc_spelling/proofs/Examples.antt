-- The texts of small documents, as an independent model of the format gives them.
use Rattle.std.proofs.Common.{◌≡◌, ℕ, false, None, Some, List, [], ◌∷◌, codes, refl, replicate, true}
use Rattle.std.specs.Fmt.{digits}
use Rattle.base64.specs.Rfc4648.{encode_symbols}
use Rattle.markup_grammar.specs.Escapes.{escaped_byte}
use Rattle.markup_grammar.specs.Tree.{element_after, text_only}
use Rattle.stream_core.specs.InnerStream.{Keystream, NoKeystream}
use Rattle.vault_model.specs.Db.{NodeId, nil_id}
use Rattle.vault_model.specs.Empty.{new_meta, new_group}
use Rattle.vault_model.specs.Shape.{EntryRecord, GroupRecord}
use Rattle.vault_model.specs.Tree.{BareDoc, node, none, beside}
use Rattle.vault_model.specs.Bare.{BareContent}
use Rattle.vault_model.specs.declared.contents.Tri.TheVariants.{No}
use Rattle.vault_model.specs.declared.forms.DocForm.TheVariants.{Plain, V3, V4}
use Rattle.vault_model.specs.declared.metas.Meta.{Meta}
use Rattle.doc_forms.specs.Entries.{no_content}
use Rattle.doc_spelling.specs.Documents.{spelled_document}
use Rattle.doc_spelling.specs.Pieces as pieces
use Rattle.doc_spelling.specs.Pieces.{Piece, secret, ◌▹◌, content_of, element_of}
use Rattle.doc_spelling.specs.Moments.{year_from, month_from, moment_at}

-- ---- documents of two entries

abbrev id_of : ℕ → NodeId
id_of b = replicate 16 b

abbrev entry_of : List ℕ → EntryRecord
entry_of title = record {
  placed = 0;
  previous = nil_id;
  current = record {
    mark = record {
      modified = 0;
      content = record no_content {
        fields = record { key = codes "Title"; value = title; hidden = false } ∷ [];
      };
    };
    stats = record { accessed = 0; usage = 0 };
  };
  history = [];
}

abbrev small_doc : BareDoc
small_doc = record {
  tree = node (id_of 1) (new_group (codes "Root") 0)
      ((id_of 2, entry_of (codes "Bank")) ∷ (id_of 3, entry_of (codes "Mail")) ∷ [])
      (beside (node (id_of 4) (new_group (codes "Work") 0) [] none) none);
  tombs = [];
  meta = new_meta;
}

-- 4,284 bytes, with the SHA-256 a67f0d412f55cabca573c979380fab298e98ddae17694778458cb87d2c44c4e0
small_text : spelled_document Plain NoKeystream None small_doc ≡ codes "<?xml version=\"1.0\" encoding=\"utf-8\"?>\n<KeePassFile><Meta><Generator>vaultmerge</Generator><SettingsChanged>0001-01-01T00:00:00Z</SettingsChanged><DatabaseName></DatabaseName><DatabaseNameChanged>0001-01-01T00:00:00Z</DatabaseNameChanged><DatabaseDescription></DatabaseDescription><DatabaseDescriptionChanged>0001-01-01T00:00:00Z</DatabaseDescriptionChanged><DefaultUserName></DefaultUserName><DefaultUserNameChanged>0001-01-01T00:00:00Z</DefaultUserNameChanged><MaintenanceHistoryDays>365</MaintenanceHistoryDays><Color></Color><MasterKeyChanged>0001-01-01T00:00:00Z</MasterKeyChanged><MasterKeyChangeRec>-1</MasterKeyChangeRec><MasterKeyChangeForce>-1</MasterKeyChangeForce><MemoryProtection><ProtectTitle>False</ProtectTitle><ProtectUserName>False</ProtectUserName><ProtectPassword>True</ProtectPassword><ProtectURL>False</ProtectURL><ProtectNotes>False</ProtectNotes></MemoryProtection><CustomIcons></CustomIcons><RecycleBinEnabled>True</RecycleBinEnabled><RecycleBinUUID>AAAAAAAAAAAAAAAAAAAAAA==</RecycleBinUUID><RecycleBinChanged>0001-01-01T00:00:00Z</RecycleBinChanged><EntryTemplatesGroup>AAAAAAAAAAAAAAAAAAAAAA==</EntryTemplatesGroup><EntryTemplatesGroupChanged>0001-01-01T00:00:00Z</EntryTemplatesGroupChanged><LastSelectedGroup>AAAAAAAAAAAAAAAAAAAAAA==</LastSelectedGroup><LastTopVisibleGroup>AAAAAAAAAAAAAAAAAAAAAA==</LastTopVisibleGroup><HistoryMaxItems>10</HistoryMaxItems><HistoryMaxSize>6291456</HistoryMaxSize><Binaries></Binaries><CustomData></CustomData></Meta><Root><Group><UUID>AQEBAQEBAQEBAQEBAQEBAQ==</UUID><Name>Root</Name><Notes></Notes><IconID>48</IconID><Times><LastModificationTime>0001-01-01T00:00:00Z</LastModificationTime><CreationTime>0001-01-01T00:00:00Z</CreationTime><LastAccessTime>0001-01-01T00:00:00Z</LastAccessTime><ExpiryTime>0001-01-01T00:00:00Z</ExpiryTime><Expires>False</Expires><UsageCount>0</UsageCount><LocationChanged>0001-01-01T00:00:00Z</LocationChanged></Times><IsExpanded>True</IsExpanded><DefaultAutoTypeSequence></DefaultAutoTypeSequence><EnableAutoType>null</EnableAutoType><EnableSearching>null</EnableSearching><LastTopVisibleEntry>AAAAAAAAAAAAAAAAAAAAAA==</LastTopVisibleEntry><Entry><UUID>AgICAgICAgICAgICAgICAg==</UUID><IconID>0</IconID><ForegroundColor></ForegroundColor><BackgroundColor></BackgroundColor><OverrideURL></OverrideURL><Tags></Tags><Times><LastModificationTime>0001-01-01T00:00:00Z</LastModificationTime><CreationTime>0001-01-01T00:00:00Z</CreationTime><LastAccessTime>0001-01-01T00:00:00Z</LastAccessTime><ExpiryTime>0001-01-01T00:00:00Z</ExpiryTime><Expires>False</Expires><UsageCount>0</UsageCount><LocationChanged>0001-01-01T00:00:00Z</LocationChanged></Times><String><Key>Title</Key><Value>Bank</Value></String><AutoType><Enabled>True</Enabled><DataTransferObfuscation>0</DataTransferObfuscation><DefaultSequence></DefaultSequence></AutoType><History></History></Entry><Entry><UUID>AwMDAwMDAwMDAwMDAwMDAw==</UUID><IconID>0</IconID><ForegroundColor></ForegroundColor><BackgroundColor></BackgroundColor><OverrideURL></OverrideURL><Tags></Tags><Times><LastModificationTime>0001-01-01T00:00:00Z</LastModificationTime><CreationTime>0001-01-01T00:00:00Z</CreationTime><LastAccessTime>0001-01-01T00:00:00Z</LastAccessTime><ExpiryTime>0001-01-01T00:00:00Z</ExpiryTime><Expires>False</Expires><UsageCount>0</UsageCount><LocationChanged>0001-01-01T00:00:00Z</LocationChanged></Times><String><Key>Title</Key><Value>Mail</Value></String><AutoType><Enabled>True</Enabled><DataTransferObfuscation>0</DataTransferObfuscation><DefaultSequence></DefaultSequence></AutoType><History></History></Entry><Group><UUID>BAQEBAQEBAQEBAQEBAQEBA==</UUID><Name>Work</Name><Notes></Notes><IconID>48</IconID><Times><LastModificationTime>0001-01-01T00:00:00Z</LastModificationTime><CreationTime>0001-01-01T00:00:00Z</CreationTime><LastAccessTime>0001-01-01T00:00:00Z</LastAccessTime><ExpiryTime>0001-01-01T00:00:00Z</ExpiryTime><Expires>False</Expires><UsageCount>0</UsageCount><LocationChanged>0001-01-01T00:00:00Z</LocationChanged></Times><IsExpanded>True</IsExpanded><DefaultAutoTypeSequence></DefaultAutoTypeSequence><EnableAutoType>null</EnableAutoType><EnableSearching>null</EnableSearching><LastTopVisibleEntry>AAAAAAAAAAAAAAAAAAAAAA==</LastTopVisibleEntry></Group></Group><DeletedObjects></DeletedObjects></Root></KeePassFile>"
unfolding escaped_byte digits encode_symbols year_from month_from moment_at
small_text = refl

-- ---- documents with what KDBX 4.1 added

abbrev old_content : BareContent
old_content = record no_content {
  fields =
      record { key = codes "Password"; value = codes "old"; hidden = true }
      ∷ record { key = codes "Title"; value = codes "Old"; hidden = false } ∷ [];
  attachments = record { name = codes "a.txt"; bytes = codes "secret"; hidden = true } ∷ [];
}

abbrev rich_content : BareContent
rich_content = record no_content {
  custom_icon = Some (id_of 9);
  fields =
      record { key = codes "Password"; value = 115 ∷ 0xC3 ∷ 0xA9 ∷ codes "cret"; hidden = true }
      ∷ record { key = codes "Title"; value = codes "Bank <1>"; hidden = false } ∷ [];
  attachments =
      record { name = codes "a.txt"; bytes = codes "abc"; hidden = false }
      ∷ record { name = codes "b.txt"; bytes = codes "secret"; hidden = true } ∷ [];
  tags = codes "a;b";
  auto_type = record {
    enabled = false;
    obfuscation = 0;
    sequence = [];
    pairs = record { window = codes "w*"; keys = codes "{TAB}" } ∷ [];
  };
  items = record { key = codes "x"; value = codes "y"; changed = 63850576089 } ∷ [];
  quality = false;
}

abbrev rich_entry : EntryRecord
rich_entry = record {
  placed = 63816271629;
  previous = id_of 4;
  current = record {
    mark = record { modified = 63816271628; content = rich_content };
    stats = record { accessed = 0; usage = 0 };
  };
  history = record {
    mark = record { modified = 63784735628; content = old_content };
    stats = record { accessed = 0; usage = 0 };
  } ∷ [];
}

abbrev rich_root : GroupRecord
rich_root = record (new_group (codes "Root") 0) {
  state = record (new_group (codes "Root") 0).state {
    content = record (new_group (codes "Root") 0).state.content {
      custom_icon = Some (id_of 9);
      tags = codes "one;two";
    };
  };
}

abbrev rich_group : GroupRecord
rich_group = record (new_group (codes "Work") 0) {
  previous = id_of 1;
  state = record (new_group (codes "Work") 0).state {
    content = record (new_group (codes "Work") 0).state.content { searching = No };
  };
}

abbrev rich_meta : Meta
rich_meta = record new_meta {
  name = record { changed = 63713531045; value = codes "Rich" };
  bin = record { changed = 0; value = record { enabled = false; id = nil_id } };
  icons = record {
    id = id_of 9;
    bytes = 0x89 ∷ 0x50 ∷ 0x4E ∷ 0x47 ∷ [];
    name = codes "Star & Co";
    changed = 63747921906;
  } ∷ [];
  items = record { key = codes "k"; value = codes "v"; changed = 63781967167 } ∷ [];
}

abbrev rich_doc : BareDoc
rich_doc = record {
  tree = node (id_of 1) rich_root ((id_of 2, rich_entry) ∷ [])
      (beside (node (id_of 4) rich_group [] none) none);
  tombs = record { id = id_of 8; deleted = 63681897600 } ∷ [];
  meta = rich_meta;
}

-- 5,670 bytes, with the SHA-256 55cbe1e38c25665198721dae474934eac110a4664a6ad14b8bf4a57faefd0199
text_in_3 : spelled_document V3 NoKeystream (Some (replicate 32 0)) rich_doc ≡ codes "<?xml version=\"1.0\" encoding=\"utf-8\"?>\n<KeePassFile><Meta><Generator>vaultmerge</Generator><HeaderHash>AAAAAAAAAAAAAAAAAAAAAAAAAAAAAAAAAAAAAAAAAAA=</HeaderHash><DatabaseName>Rich</DatabaseName><DatabaseNameChanged>2020-01-02T03:04:05Z</DatabaseNameChanged><DatabaseDescription></DatabaseDescription><DatabaseDescriptionChanged>0001-01-01T00:00:00Z</DatabaseDescriptionChanged><DefaultUserName></DefaultUserName><DefaultUserNameChanged>0001-01-01T00:00:00Z</DefaultUserNameChanged><MaintenanceHistoryDays>365</MaintenanceHistoryDays><Color></Color><MasterKeyChanged>0001-01-01T00:00:00Z</MasterKeyChanged><MasterKeyChangeRec>-1</MasterKeyChangeRec><MasterKeyChangeForce>-1</MasterKeyChangeForce><MemoryProtection><ProtectTitle>False</ProtectTitle><ProtectUserName>False</ProtectUserName><ProtectPassword>True</ProtectPassword><ProtectURL>False</ProtectURL><ProtectNotes>False</ProtectNotes></MemoryProtection><CustomIcons><Icon><UUID>CQkJCQkJCQkJCQkJCQkJCQ==</UUID><Data>iVBORw==</Data><Name>Star &amp; Co</Name><LastModificationTime>2021-02-03T04:05:06Z</LastModificationTime></Icon></CustomIcons><RecycleBinEnabled>False</RecycleBinEnabled><RecycleBinUUID>AAAAAAAAAAAAAAAAAAAAAA==</RecycleBinUUID><RecycleBinChanged>0001-01-01T00:00:00Z</RecycleBinChanged><EntryTemplatesGroup>AAAAAAAAAAAAAAAAAAAAAA==</EntryTemplatesGroup><EntryTemplatesGroupChanged>0001-01-01T00:00:00Z</EntryTemplatesGroupChanged><LastSelectedGroup>AAAAAAAAAAAAAAAAAAAAAA==</LastSelectedGroup><LastTopVisibleGroup>AAAAAAAAAAAAAAAAAAAAAA==</LastTopVisibleGroup><HistoryMaxItems>10</HistoryMaxItems><HistoryMaxSize>6291456</HistoryMaxSize><Binaries><Binary ID=\"0\">YWJj</Binary><Binary ID=\"1\" Protected=\"True\">c2VjcmV0</Binary></Binaries><CustomData><Item><Key>k</Key><Value>v</Value><LastModificationTime>2022-03-04T05:06:07Z</LastModificationTime></Item></CustomData></Meta><Root><Group><UUID>AQEBAQEBAQEBAQEBAQEBAQ==</UUID><Name>Root</Name><Notes></Notes><Tags>one;two</Tags><IconID>48</IconID><CustomIconUUID>CQkJCQkJCQkJCQkJCQkJCQ==</CustomIconUUID><Times><LastModificationTime>0001-01-01T00:00:00Z</LastModificationTime><CreationTime>0001-01-01T00:00:00Z</CreationTime><LastAccessTime>0001-01-01T00:00:00Z</LastAccessTime><ExpiryTime>0001-01-01T00:00:00Z</ExpiryTime><Expires>False</Expires><UsageCount>0</UsageCount><LocationChanged>0001-01-01T00:00:00Z</LocationChanged></Times><IsExpanded>True</IsExpanded><DefaultAutoTypeSequence></DefaultAutoTypeSequence><EnableAutoType>null</EnableAutoType><EnableSearching>null</EnableSearching><LastTopVisibleEntry>AAAAAAAAAAAAAAAAAAAAAA==</LastTopVisibleEntry><Entry><UUID>AgICAgICAgICAgICAgICAg==</UUID><IconID>0</IconID><CustomIconUUID>CQkJCQkJCQkJCQkJCQkJCQ==</CustomIconUUID><ForegroundColor></ForegroundColor><BackgroundColor></BackgroundColor><OverrideURL></OverrideURL><Tags>a;b</Tags><QualityCheck>False</QualityCheck><PreviousParentGroup>BAQEBAQEBAQEBAQEBAQEBA==</PreviousParentGroup><Times><LastModificationTime>2023-04-05T06:07:08Z</LastModificationTime><CreationTime>0001-01-01T00:00:00Z</CreationTime><LastAccessTime>0001-01-01T00:00:00Z</LastAccessTime><ExpiryTime>0001-01-01T00:00:00Z</ExpiryTime><Expires>False</Expires><UsageCount>0</UsageCount><LocationChanged>2023-04-05T06:07:09Z</LocationChanged></Times><String><Key>Password</Key><Value Protected=\"True\">c8OpY3JldA==</Value></String><String><Key>Title</Key><Value>Bank &lt;1&gt;</Value></String><Binary><Key>a.txt</Key><Value Ref=\"0\"></Value></Binary><Binary><Key>b.txt</Key><Value Ref=\"1\"></Value></Binary><AutoType><Enabled>False</Enabled><DataTransferObfuscation>0</DataTransferObfuscation><DefaultSequence></DefaultSequence><Association><Window>w*</Window><KeystrokeSequence>{TAB}</KeystrokeSequence></Association></AutoType><CustomData><Item><Key>x</Key><Value>y</Value><LastModificationTime>2024-05-06T07:08:09Z</LastModificationTime></Item></CustomData><History><Entry><UUID>AgICAgICAgICAgICAgICAg==</UUID><IconID>0</IconID><ForegroundColor></ForegroundColor><BackgroundColor></BackgroundColor><OverrideURL></OverrideURL><Tags></Tags><PreviousParentGroup>BAQEBAQEBAQEBAQEBAQEBA==</PreviousParentGroup><Times><LastModificationTime>2022-04-05T06:07:08Z</LastModificationTime><CreationTime>0001-01-01T00:00:00Z</CreationTime><LastAccessTime>0001-01-01T00:00:00Z</LastAccessTime><ExpiryTime>0001-01-01T00:00:00Z</ExpiryTime><Expires>False</Expires><UsageCount>0</UsageCount><LocationChanged>2023-04-05T06:07:09Z</LocationChanged></Times><String><Key>Password</Key><Value Protected=\"True\">b2xk</Value></String><String><Key>Title</Key><Value>Old</Value></String><Binary><Key>a.txt</Key><Value Ref=\"1\"></Value></Binary><AutoType><Enabled>True</Enabled><DataTransferObfuscation>0</DataTransferObfuscation><DefaultSequence></DefaultSequence></AutoType></Entry></History></Entry><Group><UUID>BAQEBAQEBAQEBAQEBAQEBA==</UUID><Name>Work</Name><Notes></Notes><IconID>48</IconID><Times><LastModificationTime>0001-01-01T00:00:00Z</LastModificationTime><CreationTime>0001-01-01T00:00:00Z</CreationTime><LastAccessTime>0001-01-01T00:00:00Z</LastAccessTime><ExpiryTime>0001-01-01T00:00:00Z</ExpiryTime><Expires>False</Expires><UsageCount>0</UsageCount><LocationChanged>0001-01-01T00:00:00Z</LocationChanged></Times><IsExpanded>True</IsExpanded><DefaultAutoTypeSequence></DefaultAutoTypeSequence><EnableAutoType>null</EnableAutoType><EnableSearching>False</EnableSearching><LastTopVisibleEntry>AAAAAAAAAAAAAAAAAAAAAA==</LastTopVisibleEntry><PreviousParentGroup>AQEBAQEBAQEBAQEBAQEBAQ==</PreviousParentGroup></Group></Group><DeletedObjects><DeletedObject><UUID>CAgICAgICAgICAgICAgICA==</UUID><DeletionTime>2019-01-01T00:00:00Z</DeletionTime></DeletedObject></DeletedObjects></Root></KeePassFile>"
unfolding escaped_byte digits encode_symbols year_from month_from moment_at
text_in_3 = refl

-- 5,310 bytes, with the SHA-256 c4521b48b6a9ad69fc2739545d9f924dbefa6b92f7160c7cf8c1e6574e49ae9d
text_in_4 : spelled_document V4 NoKeystream None rich_doc ≡ codes "<?xml version=\"1.0\" encoding=\"utf-8\"?>\n<KeePassFile><Meta><Generator>vaultmerge</Generator><SettingsChanged>AAAAAAAAAAA=</SettingsChanged><DatabaseName>Rich</DatabaseName><DatabaseNameChanged>pVSf1Q4AAAA=</DatabaseNameChanged><DatabaseDescription></DatabaseDescription><DatabaseDescriptionChanged>AAAAAAAAAAA=</DatabaseDescriptionChanged><DefaultUserName></DefaultUserName><DefaultUserNameChanged>AAAAAAAAAAA=</DefaultUserNameChanged><MaintenanceHistoryDays>365</MaintenanceHistoryDays><Color></Color><MasterKeyChanged>AAAAAAAAAAA=</MasterKeyChanged><MasterKeyChangeRec>-1</MasterKeyChangeRec><MasterKeyChangeForce>-1</MasterKeyChangeForce><MemoryProtection><ProtectTitle>False</ProtectTitle><ProtectUserName>False</ProtectUserName><ProtectPassword>True</ProtectPassword><ProtectURL>False</ProtectURL><ProtectNotes>False</ProtectNotes></MemoryProtection><CustomIcons><Icon><UUID>CQkJCQkJCQkJCQkJCQkJCQ==</UUID><Data>iVBORw==</Data><Name>Star &amp; Co</Name><LastModificationTime>8hes1w4AAAA=</LastModificationTime></Icon></CustomIcons><RecycleBinEnabled>False</RecycleBinEnabled><RecycleBinUUID>AAAAAAAAAAAAAAAAAAAAAA==</RecycleBinUUID><RecycleBinChanged>AAAAAAAAAAA=</RecycleBinChanged><EntryTemplatesGroup>AAAAAAAAAAAAAAAAAAAAAA==</EntryTemplatesGroup><EntryTemplatesGroupChanged>AAAAAAAAAAA=</EntryTemplatesGroupChanged><LastSelectedGroup>AAAAAAAAAAAAAAAAAAAAAA==</LastSelectedGroup><LastTopVisibleGroup>AAAAAAAAAAAAAAAAAAAAAA==</LastTopVisibleGroup><HistoryMaxItems>10</HistoryMaxItems><HistoryMaxSize>6291456</HistoryMaxSize><CustomData><Item><Key>k</Key><Value>v</Value><LastModificationTime>P5Wz2Q4AAAA=</LastModificationTime></Item></CustomData></Meta><Root><Group><UUID>AQEBAQEBAQEBAQEBAQEBAQ==</UUID><Name>Root</Name><Notes></Notes><Tags>one;two</Tags><IconID>48</IconID><CustomIconUUID>CQkJCQkJCQkJCQkJCQkJCQ==</CustomIconUUID><Times><LastModificationTime>AAAAAAAAAAA=</LastModificationTime><CreationTime>AAAAAAAAAAA=</CreationTime><LastAccessTime>AAAAAAAAAAA=</LastAccessTime><ExpiryTime>AAAAAAAAAAA=</ExpiryTime><Expires>False</Expires><UsageCount>0</UsageCount><LocationChanged>AAAAAAAAAAA=</LocationChanged></Times><IsExpanded>True</IsExpanded><DefaultAutoTypeSequence></DefaultAutoTypeSequence><EnableAutoType>null</EnableAutoType><EnableSearching>null</EnableSearching><LastTopVisibleEntry>AAAAAAAAAAAAAAAAAAAAAA==</LastTopVisibleEntry><Entry><UUID>AgICAgICAgICAgICAgICAg==</UUID><IconID>0</IconID><CustomIconUUID>CQkJCQkJCQkJCQkJCQkJCQ==</CustomIconUUID><ForegroundColor></ForegroundColor><BackgroundColor></BackgroundColor><OverrideURL></OverrideURL><Tags>a;b</Tags><QualityCheck>False</QualityCheck><PreviousParentGroup>BAQEBAQEBAQEBAQEBAQEBA==</PreviousParentGroup><Times><LastModificationTime>DAe/2w4AAAA=</LastModificationTime><CreationTime>AAAAAAAAAAA=</CreationTime><LastAccessTime>AAAAAAAAAAA=</LastAccessTime><ExpiryTime>AAAAAAAAAAA=</ExpiryTime><Expires>False</Expires><UsageCount>0</UsageCount><LocationChanged>DQe/2w4AAAA=</LocationChanged></Times><String><Key>Password</Key><Value Protected=\"True\">c8OpY3JldA==</Value></String><String><Key>Title</Key><Value>Bank &lt;1&gt;</Value></String><Binary><Key>a.txt</Key><Value Ref=\"0\"></Value></Binary><Binary><Key>b.txt</Key><Value Ref=\"1\"></Value></Binary><AutoType><Enabled>False</Enabled><DataTransferObfuscation>0</DataTransferObfuscation><DefaultSequence></DefaultSequence><Association><Window>w*</Window><KeystrokeSequence>{TAB}</KeystrokeSequence></Association></AutoType><CustomData><Item><Key>x</Key><Value>y</Value><LastModificationTime>2XjK3Q4AAAA=</LastModificationTime></Item></CustomData><History><Entry><UUID>AgICAgICAgICAgICAgICAg==</UUID><IconID>0</IconID><ForegroundColor></ForegroundColor><BackgroundColor></BackgroundColor><OverrideURL></OverrideURL><Tags></Tags><PreviousParentGroup>BAQEBAQEBAQEBAQEBAQEBA==</PreviousParentGroup><Times><LastModificationTime>jNPd2Q4AAAA=</LastModificationTime><CreationTime>AAAAAAAAAAA=</CreationTime><LastAccessTime>AAAAAAAAAAA=</LastAccessTime><ExpiryTime>AAAAAAAAAAA=</ExpiryTime><Expires>False</Expires><UsageCount>0</UsageCount><LocationChanged>DQe/2w4AAAA=</LocationChanged></Times><String><Key>Password</Key><Value Protected=\"True\">b2xk</Value></String><String><Key>Title</Key><Value>Old</Value></String><Binary><Key>a.txt</Key><Value Ref=\"1\"></Value></Binary><AutoType><Enabled>True</Enabled><DataTransferObfuscation>0</DataTransferObfuscation><DefaultSequence></DefaultSequence></AutoType></Entry></History></Entry><Group><UUID>BAQEBAQEBAQEBAQEBAQEBA==</UUID><Name>Work</Name><Notes></Notes><IconID>48</IconID><Times><LastModificationTime>AAAAAAAAAAA=</LastModificationTime><CreationTime>AAAAAAAAAAA=</CreationTime><LastAccessTime>AAAAAAAAAAA=</LastAccessTime><ExpiryTime>AAAAAAAAAAA=</ExpiryTime><Expires>False</Expires><UsageCount>0</UsageCount><LocationChanged>AAAAAAAAAAA=</LocationChanged></Times><IsExpanded>True</IsExpanded><DefaultAutoTypeSequence></DefaultAutoTypeSequence><EnableAutoType>null</EnableAutoType><EnableSearching>False</EnableSearching><LastTopVisibleEntry>AAAAAAAAAAAAAAAAAAAAAA==</LastTopVisibleEntry><PreviousParentGroup>AQEBAQEBAQEBAQEBAQEBAQ==</PreviousParentGroup></Group></Group><DeletedObjects><DeletedObject><UUID>CAgICAgICAgICAgICAgICA==</UUID><DeletionTime>gKS80w4AAAA=</DeletionTime></DeletedObject></DeletedObjects></Root></KeePassFile>"
unfolding escaped_byte digits encode_symbols year_from month_from moment_at
text_in_4 = refl

-- ---- hidden values

abbrev value_of : List ℕ → Piece
value_of bytes = secret (codes "Value") [] bytes

-- the second is hidden by what follows in the keystream
second_value : (k : Keystream) → content_of k 0 (value_of (1 ∷ 2 ∷ 3 ∷ []) ▹ value_of (4 ∷ []) ▹ pieces.none)
    ≡ element_after [] (element_of k 0 (value_of (1 ∷ 2 ∷ 3 ∷ []))) (element_after [] (element_of k 3 (value_of (4 ∷ []))) (text_only []))
second_value k = refl
