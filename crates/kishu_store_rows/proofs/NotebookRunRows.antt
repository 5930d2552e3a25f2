-- What runs of notebooks write, and the graphs that they leave: computed on the definitions. Made by tools/rows/notebook_rows.py.
use Rattle.std.specs.Prelude.{◌≡◌, ℕ, true, false, List, [], ◌∷◌, ◌++◌, codes, Some, refl}
use Rattle.kishu_language.specs.declared.profile.Profile.TheVariants.{One}
use Rattle.kishu_store.specs.Graph.{new_graph}
use Rattle.kishu_model.specs.Serve.{answers, after_all}
use Rattle.kishu_model.specs.Task.{task, notebook}
use Rattle.kishu_store_rows.proofs.OnLiterals.{notebooks_on_literals}

-- ---- cells of each kind, of which the code alone is run

abbrev book1 : List ℕ
book1 = codes "{\"cells\": [{\"cell_type\": \"markdown\", \"id\": \"m\", \"metadata\": {}, \"source\": \"1\"}, {\"cell_type\": \"code\", \"execution_count\": null, \"id\": \"a\", \"metadata\": {}, \"outputs\": [], \"source\": [\"x = [1]\\n\", \"x\"]}, {\"cell_type\": \"raw\", \"execution_count\": null, \"id\": \"b\", \"metadata\": {}, \"outputs\": [], \"source\": \"1\"}, {\"cell_type\": \"code\", \"execution_count\": null, \"id\": \"c\", \"metadata\": {}, \"outputs\": [], \"source\": \"x.append(2); print(x)\"}, {\"cell_type\": \"code\", \"execution_count\": null, \"id\": \"d\", \"metadata\": {}, \"outputs\": [], \"source\": []}], \"metadata\": {}, \"nbformat\": 4, \"nbformat_minor\": 5}"

writes_1 : answers new_graph (task (Some (notebook false)) new_graph book1) ≡ codes "{\n  \"cells\": [\n    {\n      \"cell_type\": \"markdown\",\n      \"id\": \"m\",\n      \"metadata\": {},\n      \"source\": \"1\"\n    },\n    {\n      \"cell_type\": \"code\",\n      \"execution_count\": 1,\n      \"id\": \"a\",\n      \"metadata\": {},\n      \"outputs\": [\n        {\n          \"data\": {\n            \"text/plain\": \"[1]\"\n          },\n          \"execution_count\": 1,\n          \"metadata\": {},\n          \"output_type\": \"execute_result\"\n        }\n      ],\n      \"source\": [\n        \"x = [1]\\n\",\n        \"x\"\n      ]\n    },\n    {\n      \"cell_type\": \"raw\",\n      \"execution_count\": null,\n      \"id\": \"b\",\n      \"metadata\": {},\n      \"outputs\": [],\n      \"source\": \"1\"\n    },\n    {\n      \"cell_type\": \"code\",\n      \"execution_count\": 2,\n      \"id\": \"c\",\n      \"metadata\": {},\n      \"outputs\": [\n        {\n          \"name\": \"stdout\",\n          \"output_type\": \"stream\",\n          \"text\": \"[1, 2]\\n\"\n        }\n      ],\n      \"source\": \"x.append(2); print(x)\"\n    },\n    {\n      \"cell_type\": \"code\",\n      \"execution_count\": 3,\n      \"id\": \"d\",\n      \"metadata\": {},\n      \"outputs\": [],\n      \"source\": []\n    }\n  ],\n  \"metadata\": {},\n  \"nbformat\": 4,\n  \"nbformat_minor\": 5\n}\n"
unfolding notebooks_on_literals
writes_1 = refl

leaves_1 : after_all new_graph (task (Some (notebook false)) new_graph book1) ≡ record { commits = ((record { parent = 2; profile = One; cells = ([] ∷ []) }) ∷ (record { parent = 1; profile = One; cells = ((codes "x.append(2); print(x)") ∷ []) }) ∷ (record { parent = 0; profile = One; cells = ((120 ∷ 32 ∷ 61 ∷ 32 ∷ 91 ∷ 49 ∷ 93 ∷ 10 ∷ 120 ∷ []) ∷ []) }) ∷ []); branches = (((codes "main"), 3) ∷ []); head = record { commit = 3; branch = Some (codes "main") }; records = 3 }
unfolding notebooks_on_literals
leaves_1 = refl

writes_2 : answers (record new_graph { records = 999999 }) (task (Some (notebook false)) (record new_graph { records = 999999 }) book1) ≡ codes "{\n  \"cells\": [\n    {\n      \"cell_type\": \"markdown\",\n      \"id\": \"m\",\n      \"metadata\": {},\n      \"source\": \"1\"\n    },\n    {\n      \"cell_type\": \"code\",\n      \"execution_count\": 1,\n      \"id\": \"a\",\n      \"metadata\": {},\n      \"outputs\": [\n        {\n          \"data\": {\n            \"text/plain\": \"[1]\"\n          },\n          \"execution_count\": 1,\n          \"metadata\": {},\n          \"output_type\": \"execute_result\"\n        }\n      ],\n      \"source\": [\n        \"x = [1]\\n\",\n        \"x\"\n      ]\n    },\n    {\n      \"cell_type\": \"raw\",\n      \"execution_count\": null,\n      \"id\": \"b\",\n      \"metadata\": {},\n      \"outputs\": [],\n      \"source\": \"1\"\n    },\n    {\n      \"cell_type\": \"code\",\n      \"execution_count\": null,\n      \"id\": \"c\",\n      \"metadata\": {},\n      \"outputs\": [\n        {\n          \"ename\": \"StoreFull\",\n          \"evalue\": \"\",\n          \"output_type\": \"error\",\n          \"traceback\": [\n            \"StoreFull: \"\n          ]\n        }\n      ],\n      \"source\": \"x.append(2); print(x)\"\n    },\n    {\n      \"cell_type\": \"code\",\n      \"execution_count\": null,\n      \"id\": \"d\",\n      \"metadata\": {},\n      \"outputs\": [],\n      \"source\": []\n    }\n  ],\n  \"metadata\": {},\n  \"nbformat\": 4,\n  \"nbformat_minor\": 5\n}\n"
unfolding notebooks_on_literals
writes_2 = refl

leaves_2 : after_all (record new_graph { records = 999999 }) (task (Some (notebook false)) (record new_graph { records = 999999 }) book1) ≡ record { commits = ((record { parent = 0; profile = One; cells = ((120 ∷ 32 ∷ 61 ∷ 32 ∷ 91 ∷ 49 ∷ 93 ∷ 10 ∷ 120 ∷ []) ∷ []) }) ∷ []); branches = (((codes "main"), 1) ∷ []); head = record { commit = 1; branch = Some (codes "main") }; records = 1000000 }
unfolding notebooks_on_literals
leaves_2 = refl

writes_3 : answers (record new_graph { records = 1000000 }) (task (Some (notebook false)) (record new_graph { records = 1000000 }) book1) ≡ codes "{\n  \"cells\": [\n    {\n      \"cell_type\": \"markdown\",\n      \"id\": \"m\",\n      \"metadata\": {},\n      \"source\": \"1\"\n    },\n    {\n      \"cell_type\": \"code\",\n      \"execution_count\": null,\n      \"id\": \"a\",\n      \"metadata\": {},\n      \"outputs\": [\n        {\n          \"ename\": \"StoreFull\",\n          \"evalue\": \"\",\n          \"output_type\": \"error\",\n          \"traceback\": [\n            \"StoreFull: \"\n          ]\n        }\n      ],\n      \"source\": [\n        \"x = [1]\\n\",\n        \"x\"\n      ]\n    },\n    {\n      \"cell_type\": \"raw\",\n      \"execution_count\": null,\n      \"id\": \"b\",\n      \"metadata\": {},\n      \"outputs\": [],\n      \"source\": \"1\"\n    },\n    {\n      \"cell_type\": \"code\",\n      \"execution_count\": null,\n      \"id\": \"c\",\n      \"metadata\": {},\n      \"outputs\": [],\n      \"source\": \"x.append(2); print(x)\"\n    },\n    {\n      \"cell_type\": \"code\",\n      \"execution_count\": null,\n      \"id\": \"d\",\n      \"metadata\": {},\n      \"outputs\": [],\n      \"source\": []\n    }\n  ],\n  \"metadata\": {},\n  \"nbformat\": 4,\n  \"nbformat_minor\": 5\n}\n"
unfolding notebooks_on_literals
writes_3 = refl

leaves_3 : after_all (record new_graph { records = 1000000 }) (task (Some (notebook false)) (record new_graph { records = 1000000 }) book1) ≡ record { commits = []; branches = (((codes "main"), 0) ∷ []); head = record { commit = 0; branch = Some (codes "main") }; records = 1000000 }
unfolding notebooks_on_literals
leaves_3 = refl

writes_4 : answers new_graph (task (Some (notebook true)) new_graph book1) ≡ codes "{\n  \"cells\": [\n    {\n      \"cell_type\": \"markdown\",\n      \"id\": \"m\",\n      \"metadata\": {},\n      \"source\": \"1\"\n    },\n    {\n      \"cell_type\": \"code\",\n      \"execution_count\": 1,\n      \"id\": \"a\",\n      \"metadata\": {},\n      \"outputs\": [\n        {\n          \"data\": {\n            \"text/plain\": \"[1]\"\n          },\n          \"execution_count\": 1,\n          \"metadata\": {},\n          \"output_type\": \"execute_result\"\n        }\n      ],\n      \"source\": [\n        \"x = [1]\\n\",\n        \"x\"\n      ]\n    },\n    {\n      \"cell_type\": \"raw\",\n      \"execution_count\": null,\n      \"id\": \"b\",\n      \"metadata\": {},\n      \"outputs\": [],\n      \"source\": \"1\"\n    },\n    {\n      \"cell_type\": \"code\",\n      \"execution_count\": 2,\n      \"id\": \"c\",\n      \"metadata\": {},\n      \"outputs\": [\n        {\n          \"name\": \"stdout\",\n          \"output_type\": \"stream\",\n          \"text\": \"[1, 2]\\n\"\n        }\n      ],\n      \"source\": \"x.append(2); print(x)\"\n    },\n    {\n      \"cell_type\": \"code\",\n      \"execution_count\": 3,\n      \"id\": \"d\",\n      \"metadata\": {},\n      \"outputs\": [],\n      \"source\": []\n    }\n  ],\n  \"metadata\": {},\n  \"nbformat\": 4,\n  \"nbformat_minor\": 5\n}\n"
unfolding notebooks_on_literals
writes_4 = refl

leaves_4 : after_all new_graph (task (Some (notebook true)) new_graph book1) ≡ record { commits = ((record { parent = 0; profile = One; cells = ((120 ∷ 32 ∷ 61 ∷ 32 ∷ 91 ∷ 49 ∷ 93 ∷ 10 ∷ 120 ∷ []) ∷ (codes "x.append(2); print(x)") ∷ [] ∷ []) }) ∷ []); branches = (((codes "main"), 1) ∷ []); head = record { commit = 1; branch = Some (codes "main") }; records = 1 }
unfolding notebooks_on_literals
leaves_4 = refl

writes_5 : answers (record new_graph { records = 999999 }) (task (Some (notebook true)) (record new_graph { records = 999999 }) book1) ≡ codes "{\n  \"cells\": [\n    {\n      \"cell_type\": \"markdown\",\n      \"id\": \"m\",\n      \"metadata\": {},\n      \"source\": \"1\"\n    },\n    {\n      \"cell_type\": \"code\",\n      \"execution_count\": 1,\n      \"id\": \"a\",\n      \"metadata\": {},\n      \"outputs\": [\n        {\n          \"data\": {\n            \"text/plain\": \"[1]\"\n          },\n          \"execution_count\": 1,\n          \"metadata\": {},\n          \"output_type\": \"execute_result\"\n        }\n      ],\n      \"source\": [\n        \"x = [1]\\n\",\n        \"x\"\n      ]\n    },\n    {\n      \"cell_type\": \"raw\",\n      \"execution_count\": null,\n      \"id\": \"b\",\n      \"metadata\": {},\n      \"outputs\": [],\n      \"source\": \"1\"\n    },\n    {\n      \"cell_type\": \"code\",\n      \"execution_count\": 2,\n      \"id\": \"c\",\n      \"metadata\": {},\n      \"outputs\": [\n        {\n          \"name\": \"stdout\",\n          \"output_type\": \"stream\",\n          \"text\": \"[1, 2]\\n\"\n        }\n      ],\n      \"source\": \"x.append(2); print(x)\"\n    },\n    {\n      \"cell_type\": \"code\",\n      \"execution_count\": 3,\n      \"id\": \"d\",\n      \"metadata\": {},\n      \"outputs\": [],\n      \"source\": []\n    }\n  ],\n  \"metadata\": {},\n  \"nbformat\": 4,\n  \"nbformat_minor\": 5\n}\n"
unfolding notebooks_on_literals
writes_5 = refl

leaves_5 : after_all (record new_graph { records = 999999 }) (task (Some (notebook true)) (record new_graph { records = 999999 }) book1) ≡ record { commits = ((record { parent = 0; profile = One; cells = ((120 ∷ 32 ∷ 61 ∷ 32 ∷ 91 ∷ 49 ∷ 93 ∷ 10 ∷ 120 ∷ []) ∷ (codes "x.append(2); print(x)") ∷ [] ∷ []) }) ∷ []); branches = (((codes "main"), 1) ∷ []); head = record { commit = 1; branch = Some (codes "main") }; records = 1000000 }
unfolding notebooks_on_literals
leaves_5 = refl

writes_6 : answers (record new_graph { records = 1000000 }) (task (Some (notebook true)) (record new_graph { records = 1000000 }) book1) ≡ codes "{\n  \"cells\": [\n    {\n      \"cell_type\": \"markdown\",\n      \"id\": \"m\",\n      \"metadata\": {},\n      \"source\": \"1\"\n    },\n    {\n      \"cell_type\": \"code\",\n      \"execution_count\": null,\n      \"id\": \"a\",\n      \"metadata\": {},\n      \"outputs\": [\n        {\n          \"ename\": \"StoreFull\",\n          \"evalue\": \"\",\n          \"output_type\": \"error\",\n          \"traceback\": [\n            \"StoreFull: \"\n          ]\n        }\n      ],\n      \"source\": [\n        \"x = [1]\\n\",\n        \"x\"\n      ]\n    },\n    {\n      \"cell_type\": \"raw\",\n      \"execution_count\": null,\n      \"id\": \"b\",\n      \"metadata\": {},\n      \"outputs\": [],\n      \"source\": \"1\"\n    },\n    {\n      \"cell_type\": \"code\",\n      \"execution_count\": null,\n      \"id\": \"c\",\n      \"metadata\": {},\n      \"outputs\": [],\n      \"source\": \"x.append(2); print(x)\"\n    },\n    {\n      \"cell_type\": \"code\",\n      \"execution_count\": null,\n      \"id\": \"d\",\n      \"metadata\": {},\n      \"outputs\": [],\n      \"source\": []\n    }\n  ],\n  \"metadata\": {},\n  \"nbformat\": 4,\n  \"nbformat_minor\": 5\n}\n"
unfolding notebooks_on_literals
writes_6 = refl

leaves_6 : after_all (record new_graph { records = 1000000 }) (task (Some (notebook true)) (record new_graph { records = 1000000 }) book1) ≡ record { commits = []; branches = (((codes "main"), 0) ∷ []); head = record { commit = 0; branch = Some (codes "main") }; records = 1000000 }
unfolding notebooks_on_literals
leaves_6 = refl

-- ---- nothing behind an error

abbrev book2 : List ℕ
book2 = codes "{\"cells\": [{\"cell_type\": \"code\", \"execution_count\": null, \"id\": \"a\", \"metadata\": {}, \"outputs\": [], \"source\": \"print('a'); 1 // 0\"}, {\"cell_type\": \"code\", \"execution_count\": 9, \"id\": \"b\", \"metadata\": {}, \"outputs\": [{\"output_type\": \"x\", \"k\": {\"z\": null, \"a\": [1, -5]}}], \"source\": \"2\"}], \"metadata\": {}, \"nbformat\": 4, \"nbformat_minor\": 5}"

writes_7 : answers new_graph (task (Some (notebook false)) new_graph book2) ≡ codes "{\n  \"cells\": [\n    {\n      \"cell_type\": \"code\",\n      \"execution_count\": 1,\n      \"id\": \"a\",\n      \"metadata\": {},\n      \"outputs\": [\n        {\n          \"name\": \"stdout\",\n          \"output_type\": \"stream\",\n          \"text\": \"a\\n\"\n        },\n        {\n          \"ename\": \"ZeroDivisionError\",\n          \"evalue\": \"division by zero\",\n          \"output_type\": \"error\",\n          \"traceback\": [\n            \"ZeroDivisionError: division by zero\"\n          ]\n        }\n      ],\n      \"source\": \"print('a'); 1 // 0\"\n    },\n    {\n      \"cell_type\": \"code\",\n      \"execution_count\": 9,\n      \"id\": \"b\",\n      \"metadata\": {},\n      \"outputs\": [\n        {\n          \"k\": {\n            \"a\": [\n              1,\n              -5\n            ],\n            \"z\": null\n          },\n          \"output_type\": \"x\"\n        }\n      ],\n      \"source\": \"2\"\n    }\n  ],\n  \"metadata\": {},\n  \"nbformat\": 4,\n  \"nbformat_minor\": 5\n}\n"
unfolding notebooks_on_literals
writes_7 = refl

leaves_7 : after_all new_graph (task (Some (notebook false)) new_graph book2) ≡ record { commits = ((record { parent = 0; profile = One; cells = ((codes "print('a'); 1 // 0") ∷ []) }) ∷ []); branches = (((codes "main"), 1) ∷ []); head = record { commit = 1; branch = Some (codes "main") }; records = 1 }
unfolding notebooks_on_literals
leaves_7 = refl

writes_8 : answers new_graph (task (Some (notebook true)) new_graph book2) ≡ codes "{\n  \"cells\": [\n    {\n      \"cell_type\": \"code\",\n      \"execution_count\": 1,\n      \"id\": \"a\",\n      \"metadata\": {},\n      \"outputs\": [\n        {\n          \"name\": \"stdout\",\n          \"output_type\": \"stream\",\n          \"text\": \"a\\n\"\n        },\n        {\n          \"ename\": \"ZeroDivisionError\",\n          \"evalue\": \"division by zero\",\n          \"output_type\": \"error\",\n          \"traceback\": [\n            \"ZeroDivisionError: division by zero\"\n          ]\n        }\n      ],\n      \"source\": \"print('a'); 1 // 0\"\n    },\n    {\n      \"cell_type\": \"code\",\n      \"execution_count\": 9,\n      \"id\": \"b\",\n      \"metadata\": {},\n      \"outputs\": [\n        {\n          \"k\": {\n            \"a\": [\n              1,\n              -5\n            ],\n            \"z\": null\n          },\n          \"output_type\": \"x\"\n        }\n      ],\n      \"source\": \"2\"\n    }\n  ],\n  \"metadata\": {},\n  \"nbformat\": 4,\n  \"nbformat_minor\": 5\n}\n"
unfolding notebooks_on_literals
writes_8 = refl

leaves_8 : after_all new_graph (task (Some (notebook true)) new_graph book2) ≡ record { commits = ((record { parent = 0; profile = One; cells = ((codes "print('a'); 1 // 0") ∷ []) }) ∷ []); branches = (((codes "main"), 1) ∷ []); head = record { commit = 1; branch = Some (codes "main") }; records = 1 }
unfolding notebooks_on_literals
leaves_8 = refl

-- ---- nor behind a text without a tree

abbrev book3 : List ℕ
book3 = codes "{\"cells\": [{\"cell_type\": \"code\", \"execution_count\": null, \"id\": \"a\", \"metadata\": {}, \"outputs\": [], \"source\": \"x = \"}, {\"cell_type\": \"code\", \"execution_count\": null, \"id\": \"b\", \"metadata\": {\"tags\": [\"" ++ (195 ∷ 169 ∷ []) ++ codes "\\n\\\"\\\\\"]}, \"outputs\": [], \"source\": \"1\"}], \"metadata\": {}, \"nbformat\": 4, \"nbformat_minor\": 5}"

writes_9 : answers new_graph (task (Some (notebook false)) new_graph book3) ≡ codes "{\n  \"cells\": [\n    {\n      \"cell_type\": \"code\",\n      \"execution_count\": 1,\n      \"id\": \"a\",\n      \"metadata\": {},\n      \"outputs\": [\n        {\n          \"ename\": \"SyntaxError\",\n          \"evalue\": \"invalid syntax, line 1\",\n          \"output_type\": \"error\",\n          \"traceback\": [\n            \"SyntaxError: invalid syntax, line 1\"\n          ]\n        }\n      ],\n      \"source\": \"x = \"\n    },\n    {\n      \"cell_type\": \"code\",\n      \"execution_count\": null,\n      \"id\": \"b\",\n      \"metadata\": {\n        \"tags\": [\n          \"" ++ (195 ∷ 169 ∷ []) ++ codes "\\n\\\"\\\\\"\n        ]\n      },\n      \"outputs\": [],\n      \"source\": \"1\"\n    }\n  ],\n  \"metadata\": {},\n  \"nbformat\": 4,\n  \"nbformat_minor\": 5\n}\n"
unfolding notebooks_on_literals
writes_9 = refl

leaves_9 : after_all new_graph (task (Some (notebook false)) new_graph book3) ≡ record { commits = ((record { parent = 0; profile = One; cells = ((codes "x = ") ∷ []) }) ∷ []); branches = (((codes "main"), 1) ∷ []); head = record { commit = 1; branch = Some (codes "main") }; records = 1 }
unfolding notebooks_on_literals
leaves_9 = refl

writes_10 : answers new_graph (task (Some (notebook true)) new_graph book3) ≡ codes "{\n  \"cells\": [\n    {\n      \"cell_type\": \"code\",\n      \"execution_count\": 1,\n      \"id\": \"a\",\n      \"metadata\": {},\n      \"outputs\": [\n        {\n          \"ename\": \"SyntaxError\",\n          \"evalue\": \"invalid syntax, line 1\",\n          \"output_type\": \"error\",\n          \"traceback\": [\n            \"SyntaxError: invalid syntax, line 1\"\n          ]\n        }\n      ],\n      \"source\": \"x = \"\n    },\n    {\n      \"cell_type\": \"code\",\n      \"execution_count\": null,\n      \"id\": \"b\",\n      \"metadata\": {\n        \"tags\": [\n          \"" ++ (195 ∷ 169 ∷ []) ++ codes "\\n\\\"\\\\\"\n        ]\n      },\n      \"outputs\": [],\n      \"source\": \"1\"\n    }\n  ],\n  \"metadata\": {},\n  \"nbformat\": 4,\n  \"nbformat_minor\": 5\n}\n"
unfolding notebooks_on_literals
writes_10 = refl

leaves_10 : after_all new_graph (task (Some (notebook true)) new_graph book3) ≡ record { commits = ((record { parent = 0; profile = One; cells = ((codes "x = ") ∷ []) }) ∷ []); branches = (((codes "main"), 1) ∷ []); head = record { commit = 1; branch = Some (codes "main") }; records = 1 }
unfolding notebooks_on_literals
leaves_10 = refl

-- ---- further keys stay

abbrev book4 : List ℕ
book4 = codes "{\"cells\": [{\"cell_type\": \"code\", \"execution_count\": null, \"id\": \"a\", \"metadata\": {}, \"outputs\": [], \"source\": \"'" ++ (195 ∷ 169 ∷ []) ++ codes "'\", \"extra\": {\"b\": 1, \"a\": [true, null, {}]}}, {\"cell_type\": \"markdown\", \"id\": \"m\", \"metadata\": {}, \"source\": \"1\", \"attachments\": {\"i.png\": {\"image/png\": \"x\"}}}], \"metadata\": {\"kernelspec\": {\"name\": \"k\"}}, \"nbformat\": 4, \"nbformat_minor\": 5, \"zeta\": [[]]}"

writes_11 : answers new_graph (task (Some (notebook false)) new_graph book4) ≡ codes "{\n  \"cells\": [\n    {\n      \"cell_type\": \"code\",\n      \"execution_count\": 1,\n      \"extra\": {\n        \"a\": [\n          true,\n          null,\n          {}\n        ],\n        \"b\": 1\n      },\n      \"id\": \"a\",\n      \"metadata\": {},\n      \"outputs\": [\n        {\n          \"data\": {\n            \"text/plain\": \"'" ++ (195 ∷ 169 ∷ []) ++ codes "'\"\n          },\n          \"execution_count\": 1,\n          \"metadata\": {},\n          \"output_type\": \"execute_result\"\n        }\n      ],\n      \"source\": \"'" ++ (195 ∷ 169 ∷ []) ++ codes "'\"\n    },\n    {\n      \"attachments\": {\n        \"i.png\": {\n          \"image/png\": \"x\"\n        }\n      },\n      \"cell_type\": \"markdown\",\n      \"id\": \"m\",\n      \"metadata\": {},\n      \"source\": \"1\"\n    }\n  ],\n  \"metadata\": {\n    \"kernelspec\": {\n      \"name\": \"k\"\n    }\n  },\n  \"nbformat\": 4,\n  \"nbformat_minor\": 5,\n  \"zeta\": [\n    []\n  ]\n}\n"
unfolding notebooks_on_literals
writes_11 = refl

leaves_11 : after_all new_graph (task (Some (notebook false)) new_graph book4) ≡ record { commits = ((record { parent = 0; profile = One; cells = ((39 ∷ 195 ∷ 169 ∷ 39 ∷ []) ∷ []) }) ∷ []); branches = (((codes "main"), 1) ∷ []); head = record { commit = 1; branch = Some (codes "main") }; records = 1 }
unfolding notebooks_on_literals
leaves_11 = refl

writes_12 : answers new_graph (task (Some (notebook true)) new_graph book4) ≡ codes "{\n  \"cells\": [\n    {\n      \"cell_type\": \"code\",\n      \"execution_count\": 1,\n      \"extra\": {\n        \"a\": [\n          true,\n          null,\n          {}\n        ],\n        \"b\": 1\n      },\n      \"id\": \"a\",\n      \"metadata\": {},\n      \"outputs\": [\n        {\n          \"data\": {\n            \"text/plain\": \"'" ++ (195 ∷ 169 ∷ []) ++ codes "'\"\n          },\n          \"execution_count\": 1,\n          \"metadata\": {},\n          \"output_type\": \"execute_result\"\n        }\n      ],\n      \"source\": \"'" ++ (195 ∷ 169 ∷ []) ++ codes "'\"\n    },\n    {\n      \"attachments\": {\n        \"i.png\": {\n          \"image/png\": \"x\"\n        }\n      },\n      \"cell_type\": \"markdown\",\n      \"id\": \"m\",\n      \"metadata\": {},\n      \"source\": \"1\"\n    }\n  ],\n  \"metadata\": {\n    \"kernelspec\": {\n      \"name\": \"k\"\n    }\n  },\n  \"nbformat\": 4,\n  \"nbformat_minor\": 5,\n  \"zeta\": [\n    []\n  ]\n}\n"
unfolding notebooks_on_literals
writes_12 = refl

leaves_12 : after_all new_graph (task (Some (notebook true)) new_graph book4) ≡ record { commits = ((record { parent = 0; profile = One; cells = ((39 ∷ 195 ∷ 169 ∷ 39 ∷ []) ∷ []) }) ∷ []); branches = (((codes "main"), 1) ∷ []); head = record { commit = 1; branch = Some (codes "main") }; records = 1 }
unfolding notebooks_on_literals
leaves_12 = refl

-- ---- without code

abbrev book5 : List ℕ
book5 = codes "{\"cells\": [{\"cell_type\": \"markdown\", \"id\": \"m\", \"metadata\": {}, \"source\": \"1\"}, {\"cell_type\": \"raw\", \"id\": \"n\", \"metadata\": {}, \"source\": [\"a\", \"b\"]}], \"metadata\": {}, \"nbformat\": 4, \"nbformat_minor\": 5}"

writes_13 : answers new_graph (task (Some (notebook false)) new_graph book5) ≡ codes "{\n  \"cells\": [\n    {\n      \"cell_type\": \"markdown\",\n      \"id\": \"m\",\n      \"metadata\": {},\n      \"source\": \"1\"\n    },\n    {\n      \"cell_type\": \"raw\",\n      \"id\": \"n\",\n      \"metadata\": {},\n      \"source\": [\n        \"a\",\n        \"b\"\n      ]\n    }\n  ],\n  \"metadata\": {},\n  \"nbformat\": 4,\n  \"nbformat_minor\": 5\n}\n"
unfolding notebooks_on_literals
writes_13 = refl

leaves_13 : after_all new_graph (task (Some (notebook false)) new_graph book5) ≡ record { commits = []; branches = (((codes "main"), 0) ∷ []); head = record { commit = 0; branch = Some (codes "main") }; records = 0 }
unfolding notebooks_on_literals
leaves_13 = refl

writes_14 : answers (record new_graph { records = 999999 }) (task (Some (notebook false)) (record new_graph { records = 999999 }) book5) ≡ codes "{\n  \"cells\": [\n    {\n      \"cell_type\": \"markdown\",\n      \"id\": \"m\",\n      \"metadata\": {},\n      \"source\": \"1\"\n    },\n    {\n      \"cell_type\": \"raw\",\n      \"id\": \"n\",\n      \"metadata\": {},\n      \"source\": [\n        \"a\",\n        \"b\"\n      ]\n    }\n  ],\n  \"metadata\": {},\n  \"nbformat\": 4,\n  \"nbformat_minor\": 5\n}\n"
unfolding notebooks_on_literals
writes_14 = refl

leaves_14 : after_all (record new_graph { records = 999999 }) (task (Some (notebook false)) (record new_graph { records = 999999 }) book5) ≡ record { commits = []; branches = (((codes "main"), 0) ∷ []); head = record { commit = 0; branch = Some (codes "main") }; records = 999999 }
unfolding notebooks_on_literals
leaves_14 = refl

writes_15 : answers (record new_graph { records = 1000000 }) (task (Some (notebook false)) (record new_graph { records = 1000000 }) book5) ≡ codes "{\n  \"cells\": [\n    {\n      \"cell_type\": \"markdown\",\n      \"id\": \"m\",\n      \"metadata\": {},\n      \"source\": \"1\"\n    },\n    {\n      \"cell_type\": \"raw\",\n      \"id\": \"n\",\n      \"metadata\": {},\n      \"source\": [\n        \"a\",\n        \"b\"\n      ]\n    }\n  ],\n  \"metadata\": {},\n  \"nbformat\": 4,\n  \"nbformat_minor\": 5\n}\n"
unfolding notebooks_on_literals
writes_15 = refl

leaves_15 : after_all (record new_graph { records = 1000000 }) (task (Some (notebook false)) (record new_graph { records = 1000000 }) book5) ≡ record { commits = []; branches = (((codes "main"), 0) ∷ []); head = record { commit = 0; branch = Some (codes "main") }; records = 1000000 }
unfolding notebooks_on_literals
leaves_15 = refl

writes_16 : answers new_graph (task (Some (notebook true)) new_graph book5) ≡ codes "{\n  \"cells\": [\n    {\n      \"cell_type\": \"markdown\",\n      \"id\": \"m\",\n      \"metadata\": {},\n      \"source\": \"1\"\n    },\n    {\n      \"cell_type\": \"raw\",\n      \"id\": \"n\",\n      \"metadata\": {},\n      \"source\": [\n        \"a\",\n        \"b\"\n      ]\n    }\n  ],\n  \"metadata\": {},\n  \"nbformat\": 4,\n  \"nbformat_minor\": 5\n}\n"
unfolding notebooks_on_literals
writes_16 = refl

leaves_16 : after_all new_graph (task (Some (notebook true)) new_graph book5) ≡ record { commits = []; branches = (((codes "main"), 0) ∷ []); head = record { commit = 0; branch = Some (codes "main") }; records = 0 }
unfolding notebooks_on_literals
leaves_16 = refl

writes_17 : answers (record new_graph { records = 999999 }) (task (Some (notebook true)) (record new_graph { records = 999999 }) book5) ≡ codes "{\n  \"cells\": [\n    {\n      \"cell_type\": \"markdown\",\n      \"id\": \"m\",\n      \"metadata\": {},\n      \"source\": \"1\"\n    },\n    {\n      \"cell_type\": \"raw\",\n      \"id\": \"n\",\n      \"metadata\": {},\n      \"source\": [\n        \"a\",\n        \"b\"\n      ]\n    }\n  ],\n  \"metadata\": {},\n  \"nbformat\": 4,\n  \"nbformat_minor\": 5\n}\n"
unfolding notebooks_on_literals
writes_17 = refl

leaves_17 : after_all (record new_graph { records = 999999 }) (task (Some (notebook true)) (record new_graph { records = 999999 }) book5) ≡ record { commits = []; branches = (((codes "main"), 0) ∷ []); head = record { commit = 0; branch = Some (codes "main") }; records = 999999 }
unfolding notebooks_on_literals
leaves_17 = refl

writes_18 : answers (record new_graph { records = 1000000 }) (task (Some (notebook true)) (record new_graph { records = 1000000 }) book5) ≡ codes "{\n  \"cells\": [\n    {\n      \"cell_type\": \"markdown\",\n      \"id\": \"m\",\n      \"metadata\": {},\n      \"source\": \"1\"\n    },\n    {\n      \"cell_type\": \"raw\",\n      \"id\": \"n\",\n      \"metadata\": {},\n      \"source\": [\n        \"a\",\n        \"b\"\n      ]\n    }\n  ],\n  \"metadata\": {},\n  \"nbformat\": 4,\n  \"nbformat_minor\": 5\n}\n"
unfolding notebooks_on_literals
writes_18 = refl

leaves_18 : after_all (record new_graph { records = 1000000 }) (task (Some (notebook true)) (record new_graph { records = 1000000 }) book5) ≡ record { commits = []; branches = (((codes "main"), 0) ∷ []); head = record { commit = 0; branch = Some (codes "main") }; records = 1000000 }
unfolding notebooks_on_literals
leaves_18 = refl

-- ---- without cells

abbrev book6 : List ℕ
book6 = codes "{\"cells\": [], \"metadata\": {}, \"nbformat\": 4, \"nbformat_minor\": 5}"

writes_19 : answers new_graph (task (Some (notebook false)) new_graph book6) ≡ codes "{\n  \"cells\": [],\n  \"metadata\": {},\n  \"nbformat\": 4,\n  \"nbformat_minor\": 5\n}\n"
unfolding notebooks_on_literals
writes_19 = refl

leaves_19 : after_all new_graph (task (Some (notebook false)) new_graph book6) ≡ record { commits = []; branches = (((codes "main"), 0) ∷ []); head = record { commit = 0; branch = Some (codes "main") }; records = 0 }
unfolding notebooks_on_literals
leaves_19 = refl

writes_20 : answers new_graph (task (Some (notebook true)) new_graph book6) ≡ codes "{\n  \"cells\": [],\n  \"metadata\": {},\n  \"nbformat\": 4,\n  \"nbformat_minor\": 5\n}\n"
unfolding notebooks_on_literals
writes_20 = refl

leaves_20 : after_all new_graph (task (Some (notebook true)) new_graph book6) ≡ record { commits = []; branches = (((codes "main"), 0) ∷ []); head = record { commit = 0; branch = Some (codes "main") }; records = 0 }
unfolding notebooks_on_literals
leaves_20 = refl
